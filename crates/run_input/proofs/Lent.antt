-- The demands of a run that is lent a sheet, pairs and a block, and an empty lending, which changes nothing (specs/LentClaims). Assumes nothing.
use Rattle.model.specs.Kit.{◌≡◌, refl, ap, ap₂, ◌∙◌, ⊎_elim, List, [], ◌++◌, append-nil, Memᴰ, Memᴰ-append_left, ℕ, T}
use Rattle.model.specs.{Problem.Problem, Problem.respects, Problem.with_symmetries, Verdict.Verdict, Verdict.accepted, Verdict.refused, Verdict.is_accepted, Sheet.verdict_of, Sheet.problem_of}
use Rattle.model.specs.{Inner.WellFormed.WellFormed, Inner.WellFormed.GoodSymmetry, Inner.WellFormed.Respected, Run.Ending, Run.ended, Claims.OneMore}
use mathlib.Core.List.Memᴰ
use Rattle.model.proofs.{Accepted.Passed, Accepted.passed, Accepted.is_accepted_lem, Asked.well_formed_with, Asked.respected_with, OneMore.one_more}
use Rattle.order.specs.RunBy.{Input, sheet_input, answer_by, list_by, tallied_by}
use Rattle.order.specs.{Order.Ordering, Order.settling_order, Order.order_verdict, Reordered.reordered, Claims.OrderPassed, Inner.Demanded.Demanded, Inner.Demanded.Fewer}
use Rattle.order.proofs.{Order.order_passed, Order.no_pairs, Order.no_pairs_asked, Demanded.Sound, Demanded.ran_by, Demanded.demanded, Demanded.fewer, Demanded.sheet_run}
use Rattle.sheet.specs.Meaning.{and_then}
use Rattle.block.specs.Block.{tables_lent, block_lent}
use Rattle.block.proofs.{Tables.Passes, BlockLent.tables_pass, BlockLent.tables_other}
use Rattle.run_input.specs.{Lent.verdict_lent, Lent.problem_with, Lent.order_lent, Lent.lent_input, Lent.answer_lent, LentClaims.NothingLentClaim}

-- ---- what the questions show
pub both_passed : (v u : Verdict) → T (is_accepted (and_then v u)) → T (is_accepted v) × T (is_accepted u)
both_passed accepted u t = (tt, t)
both_passed (refused number item) u t = absurd t

pub record LentPassed (b pairs block : List ℕ) : Type 0 where
  pub sheet : Passed b
  pub ordered : OrderPassed (problem_of b).variables pairs
  pub blocked : T (is_accepted (block_lent (problem_of b) block))

module _ (b pairs block : List ℕ) (good : T (is_accepted (verdict_lent b pairs block))) where
  pub lent_passed : LentPassed b pairs block
  unfolding verdict_lent
  lent_passed =
      let r = both_passed (verdict_of b) (order_verdict (problem_of b).variables pairs (block_lent (problem_of b) block)) good in
      let q = order_passed (problem_of b).variables pairs (block_lent (problem_of b) block) r.1 in
      record { sheet = passed b r.0; ordered = q.0; blocked = q.1 }

  pub well_sheet : WellFormed (problem_of b)
  well_sheet = lent_passed.sheet.well

  pass : (g : List ℕ) → Memᴰ g (tables_lent (problem_of b) block) → Passes (problem_of b) g
  pass = tables_pass (problem_of b) well_sheet block lent_passed.blocked

  pub well_lent : WellFormed (problem_with b block)
  well_lent =
      let p = problem_of b in
      well_formed_with p (p.symmetries ++ tables_lent p block) well_sheet
      (λ g i. ⊎_elim {C = GoodSymmetry p g} (well_sheet.symmetric g) (λ j. (pass g j).good) (Memᴰ.append_cases p.symmetries i))

  pub respected_lent : Respected (problem_with b block)
  respected_lent =
      let p = problem_of b in
      respected_with p (p.symmetries ++ tables_lent p block)
      (λ g i. ⊎_elim {C = T (respects p g)} (lent_passed.sheet.respected.respectful g) (λ j. (pass g j).respectful) (Memᴰ.append_cases p.symmetries i))

  pub ordering_lent : Ordering (problem_of b).variables (order_lent b pairs)
  ordering_lent = lent_passed.ordered.settled.ordering

-- an answer that ended: all questions are passed
pub lent_good : (b pairs block : List ℕ) (limit : ℕ) (out : List ℕ) (e : Ending) → answer_lent b pairs block limit out ≡ ended e → T (is_accepted (verdict_lent b pairs block))
lent_good b pairs block limit out e h = is_accepted_lem (verdict_lent b pairs block) (ran_by (lent_input b pairs block) limit out e h).good

-- ---- the demands
pub sound_lent : (b pairs block : List ℕ) → verdict_lent b pairs block ≡ accepted → Sound (lent_input b pairs block)
sound_lent b pairs block v =
    let good = is_accepted_lem (verdict_lent b pairs block) v in
    record { well = well_lent b pairs block good; respected = respected_lent b pairs block good; ordering = ordering_lent b pairs block good }

-- the demands, of a run that is lent a sheet, pairs and a block
pub demanded_lent : (b pairs block : List ℕ) → Demanded (lent_input b pairs block)
demanded_lent b pairs block = demanded (lent_input b pairs block) (sound_lent b pairs block)

-- ---- one exchange more, under the same pairs and block
-- the sheet's problem with other exchanges, and the same block
pub problem_other : (b c : List ℕ) (gs : List (List ℕ)) (block : List ℕ) → problem_of c ≡ with_symmetries (problem_of b) gs → problem_with c block ≡ with_symmetries (problem_of b)
    (gs ++ tables_lent (problem_of b) block)
problem_other b c gs block e =
    ap (λ (q : Problem). with_symmetries q (q.symmetries ++ tables_lent q block)) e
    ∙ ap (λ (ts : List (List ℕ)). with_symmetries (problem_of b) (gs ++ ts)) (tables_other (problem_of b) gs block)

-- one exchange more, both runs lent the same pairs and block
pub fewer_lent : (b c t pairs block : List ℕ) (k : ℕ) → OneMore b c k t → Fewer (lent_input b pairs block) (lent_input c pairs block)
unfolding verdict_lent
fewer_lent b c t pairs block k more =
    fewer (lent_input b pairs block) (lent_input c pairs block) (sound_lent b pairs block) (sound_lent c pairs block)
    (λ v. let good = (both_passed (verdict_of b) (order_verdict (problem_of b).variables pairs (block_lent (problem_of b) block)) (is_accepted_lem (verdict_lent b pairs block) v)).0 in
    let r = one_more b c t k more good in
    let ts = tables_lent (problem_of b) block in
    record {
      tables = r.0 ++ ts;
      own = λ g i. ⊎_elim {C = Memᴰ g (r.0 ++ ts)} (λ j. Memᴰ-append_left ts (r.1 g j)) (λ j. Memᴰ.append_right r.0 j) (Memᴰ.append_cases (problem_of b).symmetries i);
      problem = problem_other b c r.0 block r.2;
      order = ap (λ (q : Problem). settling_order q.variables pairs) r.2;
    })

-- ---- an empty lending changes nothing
verdict_none : (b : List ℕ) → verdict_lent b [] [] ≡ verdict_of b
unfolding verdict_lent block_lent
verdict_none b = ap (and_then (verdict_of b)) (no_pairs_asked (problem_of b).variables accepted) ∙ go (verdict_of b)
  where
    go : (v : Verdict) → and_then v accepted ≡ v
    go accepted = refl
    go (refused number item) = refl

problem_none : (b : List ℕ) → problem_with b [] ≡ problem_of b
unfolding tables_lent
problem_none b = ap (with_symmetries (problem_of b)) (append-nil (problem_of b).symmetries)

same_input : (b : List ℕ) → lent_input b [] [] ≡ sheet_input b
same_input b =
    ap (λ (v : Verdict). let i : Input = record { verdict = v; order = order_lent b []; problem = problem_with b [] } in i) (verdict_none b)
    ∙ ap₂ (λ (o : List ℕ) (q : Problem). let i : Input = record { verdict = verdict_of b; order = o; problem = q } in i) (no_pairs (problem_of b).variables) (problem_none b)

pub nothing_lent : NothingLentClaim
nothing_lent b = record {
  input = same_input b;
  answer = λ limit out. ap (λ (i : Input). answer_by i limit out) (same_input b) ∙ (sheet_run b).answer limit out;
  list = λ limit out. ap (λ (i : Input). list_by i limit out) (same_input b) ∙ (sheet_run b).list limit out;
  tally = λ limit out tally. ap (λ (i : Input). tallied_by i limit out tally) (same_input b) ∙ (sheet_run b).tally limit out tally;
  tree = λ v. ap (λ (i : Input). reordered i.order i.problem) (same_input b) ∙ (sheet_run b).tree v;
}
