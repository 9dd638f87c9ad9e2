-- Retyped exchanges (paper 02, #109) under the same pairs and block. Assumes nothing.
use Rattle.model.specs.Kit.{◌≡◌, refl, sym, ap, ap₂, ◌∙◌, subst, subst₂, Bool, true, false, ◌↔◌, ⊎_elim, List, [], ◌∷◌, ◌++◌, map, Memᴰ, Memᴰ-append_left, Memᴰ-cast, Memᴰ-map, Memᴰ-of_map, ℕ, T}
use Rattle.model.specs.Kit.{leb, length, take}
use Rattle.model.specs.Run.{counts_by, settled_by, Answer, refusal, answered, Result, nodes_in, written, Tally, tally_for}
use Rattle.model.specs.{Lists.keep, Lists.at, ValueSets.least, Search.is_plan, Problem.Problem, Problem.pair, Problem.is_pair, Problem.with_symmetries, Verdict.Verdict, Verdict.accepted}
use Rattle.model.specs.{Verdict.is_accepted, Verdict.reply, Verdict.kept, Sheet.problem_of, Sheet.verdict_of, Inner.WellFormed.WellFormed, Inner.WellFormed.Respected}
use mathlib.Core.List.Memᴰ
use Rattle.model.proofs.Accepted.{Passed, accepted_is, is_accepted_lem}
use Rattle.order.specs.RunBy.{result_by, place_counts, place_tally, answer_by, list_by, tallied_by}
use Rattle.order.specs.{Order.settling_order, Order.order_verdict, Reordered.write, Reordered.renamed, Reordered.symmetry_in, Reordered.reordered}
use Rattle.sheet.specs.Meaning.{and_then}
use Rattle.block.specs.Block.{factorial, variable_table, ordering_table, tables_lent, block_lent}
use Rattle.block.proofs.{Block.is_block, Block.block_e, Block.block_i, Orderings.factorial_up}
use Rattle.run_input.specs.Lent.{verdict_lent, problem_with, order_lent, problem_lent, answer_lent, list_lent}
use Rattle.run_input.proofs.Lent.{both_passed, lent_passed, well_lent, respected_lent, problem_other}
use Rattle.families.specs.Families.{Joined, families_of}
use Rattle.families.proofs.{Joined.joined_one, FewerFamilies.joined_more, FewerFamilies.joined_fewer, FewerFamilies.families_same}
use Rattle.families_figure.specs.Figure.{problem_bare, figure_for, families_lent}
use Rattle.run_enough.specs.{AtLeast.Enough, AtLeast.enough, AtLeast.too_few, AtLeast.unknown, AtLeast.nodes_to, AtLeast.enough_of, Lent.enough_lent}
use Rattle.run_retyped.specs.{Retyped.SameSearch, Retyped.SameButOrder, LentClaims.SameRunsLent, LentClaims.RetypedLent, LentClaims.RetypedAcceptedLent, LentClaims.RetypedExactly}
use Rattle.run_retyped.specs.Inner.Figures.{RetypedEnough, RetypedFamilies}
use Rattle.run_retyped.proofs.{SameSearch.SameSymmetries, SameSearch.same_search, Retyped.same_symmetries, Retyped.retyped_accepted}
use Rattle.model.proofs.Asked as A
use Rattle.block.proofs.Tables as B

-- ---- the problems
put_behind : (ts xs ys : List (List ℕ)) → ((g : List ℕ) → Memᴰ g xs → Memᴰ g ys) → (g : List ℕ) → Memᴰ g (xs ++ ts) → Memᴰ g (ys ++ ts)
put_behind ts xs ys k g m = ⊎_elim {C = Memᴰ g (ys ++ ts)} (λ i. Memᴰ-append_left ts (k g i)) (λ i. Memᴰ.append_right ys i) (Memᴰ.append_cases xs m)

-- the same symmetries, with further ones behind both, in any order of the variables
same_behind : (p : Problem) (gs ts : List (List ℕ)) (order : List ℕ) → ((g : List ℕ) → Memᴰ g p.symmetries ↔ Memᴰ g gs) →
    SameSymmetries (reordered order (with_symmetries p (p.symmetries ++ ts))) (reordered order (with_symmetries p (gs ++ ts)))
unfolding symmetry_in renamed pair
same_behind p gs ts order h = record {
  variables = refl;
  values = refl;
  initial = refl;
  constraints = refl;
  symmetries = λ g. (
    λ m. let r = Memᴰ-of_map (symmetry_in order p) (p.symmetries ++ ts) m in Memᴰ-cast (sym r.2) (Memᴰ-map (symmetry_in order p) (put_behind ts p.symmetries gs (λ k. (h k).0) r.0 r.1)),
    λ m. let r = Memᴰ-of_map (symmetry_in order p) (gs ++ ts) m in Memᴰ-cast (sym r.2) (Memᴰ-map (symmetry_in order p) (put_behind ts gs p.symmetries (λ k. (h k).1) r.0 r.1)),
  );
}

-- a problem with the other's symmetries
whole : (p q : Problem) → SameSymmetries p q → q ≡ with_symmetries p q.symmetries
whole p q s = λ i. record { variables = s.variables i; values = s.values i; initial = s.initial i; constraints = s.constraints i; symmetries = q.symmetries }

module _ (b c pairs block : List ℕ) (ok : Passed b) (s : SameButOrder b c) where
  both_same : SameSymmetries (problem_of b) (problem_of c)
  both_same = same_symmetries b c ok s

  same_order : order_lent c pairs ≡ order_lent b pairs
  same_order = ap (λ (n : ℕ). settling_order n pairs) both_same.variables

  pub same_lent : SameSymmetries (problem_lent b pairs block) (problem_lent c pairs block)
  same_lent =
      subst₂ (λ (o : List ℕ) (q : Problem). SameSymmetries (problem_lent b pairs block) (reordered o q)) (sym same_order)
      (sym (problem_other b c (problem_of c).symmetries block (whole (problem_of b) (problem_of c) both_same)))
      (same_behind (problem_of b) (problem_of c).symmetries (tables_lent (problem_of b) block) (order_lent b pairs) both_same.symmetries)

  abbrev search : SameSearch (problem_lent b pairs block) (problem_lent c pairs block)
  search = same_search (problem_lent b pairs block) (problem_lent c pairs block) same_lent

  results : (limit room : ℕ) → result_by (order_lent c pairs) (problem_with c block) limit room ≡ result_by (order_lent b pairs) (problem_with b block) limit room
  unfolding result_by
  results limit room = ap₂ (λ (o : List ℕ) (r : Result). record { ending = r.ending; rows = map (write o) r.rows }) same_order (search.results limit room)

  places : (k : ℕ) → place_counts (order_lent c pairs) (problem_with c block) k ≡ place_counts (order_lent b pairs) (problem_with b block) k
  unfolding place_counts
  places k = ap₂ (λ (o : List ℕ) (ns : List (List ℕ)). counts_by (λ t. at o (settled_by t)) (take k ns)) same_order search.tree

  tallies : (a : Answer) (tally : Tally) → tally_for a (place_tally (order_lent c pairs) (problem_with c block)) tally ≡ tally_for a (place_tally (order_lent b pairs) (problem_with b block)) tally
  tallies (refusal number item) tally = refl
  tallies (answered e) tally = ap (λ (cs : List ℕ). record { nodes = nodes_in e; counts = cs }) (places (nodes_in e))

  -- ---- what a caller holds
  module _ (hb : verdict_lent b pairs block ≡ accepted) (hc : verdict_lent c pairs block ≡ accepted) where
    answers : (limit : ℕ) (out : List ℕ) → answer_lent c pairs block limit out ≡ answer_lent b pairs block limit out
    unfolding answer_by
    answers limit out = ap₂ (λ (v : Verdict) (r : Result). reply v r.ending) (hc ∙ sym hb) (results limit (length out))

    lists : (limit : ℕ) (out : List ℕ) → list_lent c pairs block limit out ≡ list_lent b pairs block limit out
    unfolding list_by
    lists limit out = ap₂ (λ (v : Verdict) (r : Result). kept v out (written r.rows out)) (hc ∙ sym hb) (results limit (length out))

    same_runs : SameRunsLent b c pairs block
    unfolding tallied_by
    same_runs = record {
      search = search;
      sets = λ prefix. ap₂ write same_order (search.sets prefix);
      answers = answers;
      lists = lists;
      tallies = λ limit out tally. ap (λ (a : Answer). tally_for a (place_tally (order_lent c pairs) (problem_with c block)) tally) (answers limit out) ∙ tallies
          (answer_lent b pairs block limit out) tally;
    }

pub retyped_lent : RetypedLent
retyped_lent b c pairs block hb hc s = same_runs b c pairs block (lent_passed b pairs block (is_accepted_lem (verdict_lent b pairs block) hb)).sheet s hb hc

-- ---- one accepted, the other too
block_other : (p : Problem) (gs : List (List ℕ)) → WellFormed p → WellFormed (with_symmetries p gs) → (block : List ℕ) → block_lent p block ≡ accepted →
    block_lent (with_symmetries p gs) block ≡ accepted
unfolding block_lent ordering_table variable_table is_pair pair
block_other p gs w v [] h = refl
block_other p gs w v (first ∷ []) h = h
block_other p gs w v (first ∷ m ∷ []) h =
    let k = block_e p w first m h in
    block_i (with_symmetries p gs) v first m (is_block (with_symmetries p gs) first m k.few k.inside)
    (λ i l n. let r = k.rows (factorial i) (factorial_up i m l n) in
    ((A.good_other p gs (ordering_table p first m (factorial i)) r.good).permutes, A.respects_other p gs (ordering_table p first m (factorial i)) r.respectful))
block_other p gs w v (first ∷ m ∷ x ∷ more) h = h

pub retyped_accepted_lent : RetypedAcceptedLent
unfolding verdict_lent
retyped_accepted_lent b c pairs block hb s =
    let x = lent_passed b pairs block (is_accepted_lem (verdict_lent b pairs block) hb) in
    let same = same_symmetries b c x.sheet s in
    let p = problem_of b in
    let gs = (problem_of c).symmetries in
    let w = x.sheet.well in
    let v = A.well_formed_with p gs w (λ g m. w.symmetric g ((same.symmetries g).1 m)) in
    let kb : block_lent p block ≡ accepted = accepted_is (block_lent p block) x.blocked in
    let kc : block_lent (problem_of c) block ≡ accepted = ap (λ (q : Problem). block_lent q block) (whole p (problem_of c) same) ∙ block_other p gs w v block kb in
    let sb = accepted_is (verdict_of b) (both_passed (verdict_of b) (order_verdict p.variables pairs (block_lent p block)) (is_accepted_lem (verdict_lent b pairs block) hb)).0 in
    ap₂ and_then (retyped_accepted b c sb s ∙ sym sb) (ap₂ (λ (n : ℕ) (u : Verdict). order_verdict n pairs u) same.variables (kc ∙ sym kb)) ∙ hb

pub retyped_exactly : RetypedExactly
retyped_exactly b c pairs block s t = (λ h. retyped_accepted_lent b c pairs block h s, λ h. retyped_accepted_lent c b pairs block h t)

-- ---- at least m plans
enough_same : (p q : Problem) → SameSearch p q → (limit m : ℕ) → enough_of q limit m ≡ enough_of p limit m
unfolding enough_of nodes_to
enough_same p q s limit m = ap₂ (λ (f : List ℕ → Bool) (ns : List (List ℕ)).
    elim (leb m (length (keep f (take limit ns)))) [
      | true ↦ enough m (least (length ns) (λ k. leb m (length (keep f (take k ns)))))
      | false ↦ elim (leb (length ns) limit) [ true ↦ too_few (length (keep f (take limit ns))) (length ns) | false ↦ unknown (length (keep f (take limit ns))) limit ]
    ]) plans s.tree
  where
    plans : is_plan q ≡ is_plan p
    plans = λ i node. s.plans node i

pub retyped_enough : RetypedEnough
unfolding enough_lent
retyped_enough b c pairs block hb s limit m =
    let ok = (lent_passed b pairs block (is_accepted_lem (verdict_lent b pairs block) hb)).sheet in
    let p = problem_lent b pairs block in
    let q = problem_lent c pairs block in
    ap₂ (λ (v : Verdict) (x : Enough). reply v x) (retyped_accepted_lent b c pairs block hb s ∙ sym hb) (enough_same p q (same_search p q (same_lent b c pairs block ok s)) limit m)

-- ---- families
pub retyped_families : RetypedFamilies
unfolding families_lent
retyped_families b c pairs block hb s = (
  count,
  λ x y. (
    λ j. joined_fewer p gs (λ g a d m sa t sd. joined_one p a d g sa (back g m) t sd) x y (subst (λ (q : Problem). Joined q x y) other j),
    λ j. subst (λ (q : Problem). Joined q x y) (sym other) (joined_more p gs there x y j),
  ),
  λ limit room.
      ap₂ (λ (r r' : Result). figure_for r.ending r'.ending (families_of (problem_with c block))) (results b c pairs block ok s limit room)
      (ap₂ (λ (o : List ℕ) (q : Problem). result_by o q limit room) (same_order b c pairs block ok s) bare)
      ∙ ap (figure_for (result_by (order_lent b pairs) p limit room).ending (result_by (order_lent b pairs) (problem_bare b) limit room).ending) count,
)
  where
    good : T (is_accepted (verdict_lent b pairs block))
    good = is_accepted_lem (verdict_lent b pairs block) hb

    ok : Passed b
    ok = (lent_passed b pairs block good).sheet

    same : SameSymmetries (problem_of b) (problem_of c)
    same = both_same b c pairs block ok s

    p : Problem
    p = problem_with b block

    ts : List (List ℕ)
    ts = tables_lent (problem_of b) block

    gs : List (List ℕ)
    gs = (problem_of c).symmetries ++ ts

    other : problem_with c block ≡ with_symmetries p gs
    other = problem_other b c (problem_of c).symmetries block (whole (problem_of b) (problem_of c) same)

    there : (g : List ℕ) → Memᴰ g p.symmetries → Memᴰ g gs
    there = put_behind ts (problem_of b).symmetries (problem_of c).symmetries (λ g. (same.symmetries g).0)

    back : (g : List ℕ) → Memᴰ g gs → Memᴰ g p.symmetries
    back = put_behind ts (problem_of c).symmetries (problem_of b).symmetries (λ g. (same.symmetries g).1)

    count : families_of (problem_with c block) ≡ families_of p
    count =
        ap families_of other
        ∙ families_same p gs (well_lent b pairs block good) (respected_lent b pairs block good)
        (subst Respected other (respected_lent c pairs block (is_accepted_lem (verdict_lent c pairs block) (retyped_accepted_lent b c pairs block hb s)))) there back

    bare : problem_bare c ≡ problem_bare b
    bare = λ i. record { variables = same.variables i; values = same.values i; initial = same.initial i; constraints = same.constraints i; symmetries = [] }
