-- At least m plans (paper 02, #101), asked of a sheet, pairs and a block: what the answer says of the complete list, and its figures. Assumes nothing.
use Rattle.model.specs.Kit.{◌≡◌, refl, sym, ap, ap₂, ◌∙◌, subst, List, ℕ, ◌*◌, ◌≤◌, ◌<◌, arith, length, length-map}
use Rattle.model.specs.Run.{Ending, finished, spent, result_of, ended}
use Rattle.model.specs.{Lists.keep, Problem.Problem, Verdict.Verdict, Verdict.accepted, Verdict.refused, Verdict.reply, Sheet.problem_of, Search.nodes, Search.is_plan, Claims.plans_among}
use Rattle.model.specs.{Claims.leaders}
use Rattle.model.proofs.{Runs.finished_rows, Runs.finishes, Demands.same_test, Demands.reply_so, Tree.plans_of_tree, Accepted.is_accepted_lem}
use Rattle.order.specs.{Reordered.write, RunBy.result_by, RunBy.leaders_by, RunBy.answer_by}
use Rattle.order.proofs.{Reordered.respected_reordered, RunBy.w2, RunBy.leaders_by_is, Demanded.ran_by, Demanded.held}
use Rattle.run_input.specs.Lent.{verdict_lent, problem_with, order_lent, problem_lent, lent_input, answer_lent, plans_lent}
use Rattle.run_input.proofs.Lent.{well_lent, respected_lent, ordering_lent, sound_lent}
use Rattle.run_enough.specs.{AtLeast.Enough, AtLeast.enough, AtLeast.too_few, AtLeast.unknown, AtLeast.nodes_to, AtLeast.enough_of, Lent.answered, Lent.enough_lent}
use Rattle.run_enough.specs.Inner.LentClaims.{EnoughRefusedLent, EnoughNoneLent, AgreesLent, EnoughAgreesLent, EnoughFiguresLent, EnoughMoreLent}
use Rattle.run_enough.proofs.AtLeast.{Said, said, spends, among_all, among_most, is_enough, to_limit, to_count, to_before, enough_none_lem, enough_more}

of_answer : (b pairs block : List ℕ) (limit m : ℕ) (e : Enough) → enough_lent b pairs block limit m ≡ answered e → (verdict_lent b pairs block ≡ accepted) ×
    (enough_of (problem_lent b pairs block) limit m ≡ e)
unfolding enough_lent
of_answer b pairs block limit m e h = reply_so (verdict_lent b pairs block) (enough_of (problem_lent b pairs block) limit m) e h

run_of : (b pairs block : List ℕ) (limit : ℕ) (out : List ℕ) (e : Ending) → verdict_lent b pairs block ≡ accepted → (result_of (problem_lent b pairs block) limit (length out)).ending ≡ e
    → answer_lent b pairs block limit out ≡ ended e
unfolding answer_by result_by
run_of b pairs block limit out e h q = ap₂ (λ (v : Verdict) (x : Ending). reply v x) h q

-- as many plans in the tree as leaders in the order
pub tree_leaders : (b pairs block : List ℕ) → verdict_lent b pairs block ≡ accepted → length (keep (is_plan (problem_lent b pairs block)) (nodes (problem_lent b pairs block))) ≡ length
    (leaders_by (order_lent b pairs) (problem_with b block))
tree_leaders b pairs block h =
    let p = problem_with b block in
    let order = order_lent b pairs in
    let good = is_accepted_lem (verdict_lent b pairs block) h in
    let w = well_lent b pairs block good in
    let r = respected_lent b pairs block good in
    let o = ordering_lent b pairs block good in
    let p2 = problem_lent b pairs block in
    let v = w2 p w r order o in
    ap length (plans_of_tree p2 v ∙ same_test p2 v (respected_reordered p order o w r)) ∙ sym (length-map (leaders p2) (write order)) ∙ ap length (leaders_by_is p w r order o)

pub enough_refused_lent : EnoughRefusedLent
unfolding enough_lent
enough_refused_lent b pairs block limit m number item h = ap (λ (v : Verdict). reply v (enough_of (problem_lent b pairs block) limit m)) h

pub enough_none_lent : EnoughNoneLent
unfolding enough_lent
enough_none_lent b pairs block limit h = ap₂ (λ (v : Verdict) (x : Enough). reply v x) h (enough_none_lem (problem_lent b pairs block) limit)

module _ (b pairs block : List ℕ) (limit m : ℕ) where
  abbrev p : Problem
  p = problem_lent b pairs block

  -- what an answer says
  of_said : (e : Enough) → enough_lent b pairs block limit m ≡ answered e → Said p limit m e
  of_said e h = subst (Said p limit m) (of_answer b pairs block limit m e h).1 (said p limit m)

  module _ (limit' : ℕ) (out : List ℕ) (plans made : ℕ) (h : answer_lent b pairs block limit' out ≡ ended (finished plans made)) where
    abbrev count : ℕ
    count = length (plans_lent b pairs block limit' out (finished plans made))

    so : (result_of p limit' (length out)).ending ≡ finished plans made
    unfolding result_by
    so = (ran_by (lent_input b pairs block) limit' out (finished plans made) h).so

    listed : count ≡ length (keep (is_plan p) (nodes p))
    unfolding result_by
    listed =
        ap length (held (lent_input b pairs block) (sound_lent b pairs block) limit' out (finished plans made) h) ∙ length-map (result_of p limit' (length out)).rows (write (order_lent b pairs))
        ∙ ap length (finished_rows p limit' (length out) plans made so).0

    walked : made ≡ length (nodes p)
    walked = (finished_rows p limit' (length out) plans made so).2

    of_many : m ≤ plans_among p limit → enough_lent b pairs block limit m ≡ answered (enough m (nodes_to p m))
    unfolding enough_lent
    of_many k = ap₂ (λ (v : Verdict) (x : Enough). reply v x) (ran_by (lent_input b pairs block) limit' out (finished plans made) h).good (is_enough p limit m k)

    agrees : AgreesLent (enough_lent b pairs block limit m) limit m made count
    agrees = record {
      yes_so = yes_so;
      no_so = no_so;
      decided = decided;
      yes_exactly = λ l. (λ y. yes_so y.0 y.1 y.2, λ k. (m, nodes_to p m, of_many (omega (arith, k, l, listed, walked, among_all p limit (omega (arith, l, walked))))));
    }
      where
        yes_so : (k t : ℕ) → enough_lent b pairs block limit m ≡ answered (enough k t) → m ≤ count
        yes_so k t e = let s = of_said (enough k t) e in omega (arith, s.2, among_most p limit, listed)

        no_so : (k t : ℕ) → enough_lent b pairs block limit m ≡ answered (too_few k t) → (count < m) × (k ≡ count) × (t ≡ made)
        no_so k t e = let s = of_said (too_few k t) e in let q = among_all p limit s.3 in (omega (arith, s.2, listed), s.0 ∙ q ∙ sym listed, s.1 ∙ sym walked)

        decided : made ≤ limit → (k t : ℕ) → enough_lent b pairs block limit m ≡ answered (unknown k t) → ⊥
        decided l k t e = let s = of_said (unknown k t) e in omega (arith, s.3, walked)

pub enough_agrees_lent : EnoughAgreesLent
enough_agrees_lent b pairs block limit m limit' out plans made h = agrees b pairs block limit m limit' out plans made h

pub enough_figures_lent : EnoughFiguresLent
enough_figures_lent b pairs block limit m = record {
  on_yes = λ k t e. (let s = of_said b pairs block limit m (enough k t) e in
      (s.0, subst (λ (z : ℕ). z ≤ limit) (sym s.1) (to_limit q m limit s.2), ap (plans_among q) s.1 ∙ to_count q m limit s.2, λ j l. to_before q m j (subst (λ (z : ℕ). j < z) s.1 l)));
  on_no = λ k t e out r. (let a = of_answer b pairs block limit m (too_few k t) e in let s = of_said b pairs block limit m (too_few k t) e in
      run_of b pairs block limit out (finished k t) a.0 (finishes q limit (length out) s.3 (room out a.0 r) ∙ ap₂ finished (sym (s.0 ∙ among_all q limit s.3)) (sym s.1)));
  on_spent = λ k t e out r. (let a = of_answer b pairs block limit m (unknown k t) e in let s = of_said b pairs block limit m (unknown k t) e in
      run_of b pairs block limit out (spent k t) a.0 (spends q limit (length out) s.3 (room out a.0 r) ∙ ap₂ spent (sym s.0) (sym s.1)));
}
  where
    q : Problem
    q = problem_lent b pairs block

    room : (out : List ℕ) → verdict_lent b pairs block ≡ accepted → length (leaders_by (order_lent b pairs) (problem_with b block)) * (problem_of b).variables ≤ length out → length
        (keep (is_plan q) (nodes q)) * (problem_of b).variables ≤ length out
    room out h r = subst (λ (l : ℕ). l * (problem_of b).variables ≤ length out) (sym (tree_leaders b pairs block h)) r

pub enough_more_lent : EnoughMoreLent
unfolding enough_lent
enough_more_lent b pairs block limit limit' m l h = go (verdict_lent b pairs block) refl
  where
    go : (v : Verdict) → verdict_lent b pairs block ≡ v → reply v (enough_of (problem_lent b pairs block) limit' m) ≡ reply v (enough_of (problem_lent b pairs block) limit m)
    go accepted q = ap answered (enough_more (problem_lent b pairs block) limit limit' m l
        (λ k t e. h k t (ap (λ (v : Verdict). reply v (enough_of (problem_lent b pairs block) limit m)) q ∙ ap answered e)))
    go (refused number item) q = refl
