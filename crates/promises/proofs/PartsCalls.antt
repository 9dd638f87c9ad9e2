-- Parts of a run, of what callers hold (specs/PartsCalls). Assumes nothing.
use Rattle.model.specs.Kit.{◌≡◌, sym, ap, ◌∙◌, subst, List, ℕ, length, replicate}
use Rattle.model.specs.{Verdict.Verdict, Verdict.reply, Sheet.problem_of}
use Rattle.order.specs.RunBy.{result_by, place_tally, answer_by, tallied_by}
use Rattle.run_input.specs.Lent.{problem_with, order_lent, answer_lent, list_lent, tally_lent}
use Rattle.run_state.specs.Meaning.{tally_in}
use Rattle.run_ranges.specs.Claims.{Together}
use Rattle.run_ranges.proofs.Joined.{joined_run, whole_run}
use Rattle.promises.specs.PartsCalls.{PartsCalls, WholeCalls}
use Rattle.model.specs.Run as Run

pub parts_calls : PartsCalls
parts_calls b pairs block cs so chain limit out tally r after tally' c l m =
    subst (λ (a : Run.Answer). Together (problem_of b).variables cs out a after (tally_in tally')) (sym c.answers)
    (subst (λ (list : List ℕ). Together (problem_of b).variables cs out (answer_lent b pairs block limit out) list (tally_in tally')) (sym c.leaves)
    (subst (λ (t : Run.Tally). Together (problem_of b).variables cs out (answer_lent b pairs block limit out) (list_lent b pairs block limit out) t) (sym c.counts)
    (joined_run b pairs block cs so chain limit out (tally_in tally) l m)))

pub whole_calls : WholeCalls
unfolding tallied_by answer_by
whole_calls b pairs block limit out r after c tally r' after' tally' d so =
    let w = whole_run b pairs block limit out in
    (c.answers ∙ w.answer ∙ sym d.answers, c.leaves ∙ w.list ∙ sym d.leaves, c.counts ∙ w.tally ∙ same record { nodes = 0; counts = replicate 12 0 } (tally_in tally) ∙ sym d.counts)
  where
    same : (t u : Run.Tally) → tally_lent b pairs block limit out t ≡ tally_lent b pairs block limit out u
    same t u =
        let e = (result_by (order_lent b pairs) (problem_with b block) limit (length out)).ending in
        let made = place_tally (order_lent b pairs) (problem_with b block) in
        ap (λ (v : Verdict). Run.tally_for (reply v e) made t) so ∙ sym (ap (λ (v : Verdict). Run.tally_for (reply v e) made u) so)
