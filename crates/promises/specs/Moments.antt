-- The tally at every moment of a run (paper 02, #107), of what two callers of `run_lent` hold: a run, and the same run stopped after k of its trials.
-- proofs/Moments has the theorem.
use Rattle.std.specs.Prelude.{◌≡◌, List, ℕ, ◌≤◌, length, take, Result, Ok}
use Rattle.model.specs.{Lists.at, Lists.total, Sheet.problem_of, Run.plans_in, Run.nodes_in}
use Rattle.order.specs.RunBy.{place_counts}
use Rattle.run_input.specs.Lent.{problem_with, order_lent}
use Rattle.run_state.specs.{declared.Tally.Tally, Meaning.ending_of, declared.Ending.Ending}
use Rattle.run.specs.{Calls.CallLent}
use Rattle.model.specs.declared.refusals.Refusal.{Refusal}
use Rattle.promises.specs.DemandsLent.{plans_from}

-- the run ended with e and left `after`; stopped after k trials it answers r₂ and leaves after₂ and tally₂
pub record Moment (b pairs block : List ℕ) (e : Ending) (after : List ℕ) (k : ℕ) (r₂ : Result Ending Refusal) (after₂ : List ℕ) (tally₂ : Tally) : Type 0 where
  -- it has made k trials ..
  pub stops : (e₂ : Ending) × (r₂ ≡ Ok e₂) × (nodes_in (ending_of e₂) ≡ k)
  -- .. the thirteen numbers are those of the first k nodes of the tree: k, and of these, those that settle each of twelve places, which add up to k; a
  -- place that the sheet has not has none ..
  pub nodes : tally₂.nodes ≡ k
  pub counts : tally₂.counts ≡ place_counts (order_lent b pairs) (problem_with b block) k
  pub sum : total tally₂.counts ≡ k
  pub unused : (x : ℕ) → (problem_of b).variables ≤ x → at tally₂.counts x ≡ 0
  -- .. and its plans are a first part of the run's
  pub plans : (e₂ : Ending) → r₂ ≡ Ok e₂ → plans_from b (plans_in (ending_of e₂)) after₂ ≡ take (plans_in (ending_of e₂)) (plans_from b (plans_in (ending_of e)) after)

-- for every k up to the trials that the run made, with lists of one length
abbrev pub EachMoment : Type 0
EachMoment =
    (b pairs block : List ℕ) (limit : ℕ) (out : List ℕ) (tally : Tally) (e : Ending) (after : List ℕ) (tally' : Tally) → CallLent b pairs block limit out tally (Ok e) after tally' →
    (k : ℕ) → k ≤ nodes_in (ending_of e) →
    (out₂ : List ℕ) (tally₂ : Tally) (r₂ : Result Ending Refusal) (after₂ : List ℕ) (tally₂' : Tally) → CallLent b pairs block k out₂ tally₂ r₂ after₂ tally₂' → length out₂ ≡ length out →
    Moment b pairs block e after k r₂ after₂ tally₂'
