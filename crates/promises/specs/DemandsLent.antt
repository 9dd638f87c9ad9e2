-- The same of a caller of `run_lent` (paper 02, #107, #108 and #111), which is lent a sheet, pairs and a block: "reads earlier" goes by the order of the run; rows and counts go
-- by variable number. proofs/Demands has the theorems.
use Rattle.std.specs.Prelude.{List, ℕ, Result}
use Rattle.model.specs.{Lists.at, Sheet.problem_of, Run.listed_plans, Claims.OneMore}
use Rattle.order.specs.{Reordered.read, Reordered.reordered, RunBy.Input, RunBy.place_counts, RunBy.leaders_by, RunBy.sets_by, RunBy.is_live_by}
use Rattle.run_input.specs.Lent.{lent_input}
use Rattle.run_state.specs.{declared.Tally.Tally, declared.Ending.Ending}
use Rattle.run.specs.{Calls.CallLent}
use Rattle.model.specs.declared.refusals.Refusal.{Refusal}
use Rattle.promises.specs.Demands.{Reading, Demands, TallyHeld, MoreHeld}

-- the listed plans: as many rows of n bytes at the front of the list as the ending carries
abbrev pub plans_from : List ℕ → ℕ → List ℕ → List (List ℕ)
plans_from b plans after = listed_plans (problem_of b).variables plans after

-- a run in an order
abbrev pub of_input : Input → Reading
of_input i =
    record {
      verdict = i.verdict;
      problem = i.problem;
      reads = read i.order;
      led = leaders_by i.order i.problem;
      tree = reordered i.order i.problem;
      counted = place_counts i.order i.problem;
      named = at i.order;
      live = is_live_by i.order i.problem;
      sets = sets_by i.order i.problem;
    }

abbrev pub of_lent : List ℕ → List ℕ → List ℕ → Reading
of_lent b pairs block = of_input (lent_input b pairs block)

abbrev pub LentDemands : Type 0
LentDemands =
    (b pairs block : List ℕ) (limit : ℕ) (out : List ℕ) (tally : Tally) (r : Result Ending Refusal) (after : List ℕ) (tally' : Tally) → CallLent b pairs block limit out tally r after tally' →
    Demands (of_lent b pairs block) limit out r after × TallyHeld (of_lent b pairs block) tally r tally'

-- both runs lent the same pairs and block
abbrev pub MoreDemandsLent : Type 0
MoreDemandsLent =
    (b c t pairs block : List ℕ) (k : ℕ) → OneMore b c k t →
    (limit : ℕ) (out : List ℕ) (tally : Tally) (r : Result Ending Refusal) (after : List ℕ) (tally' : Tally) → CallLent b pairs block limit out tally r after tally' →
    (limit₂ : ℕ) (out₂ : List ℕ) (tally₂ : Tally) (r₂ : Result Ending Refusal) (after₂ : List ℕ) (tally₂' : Tally) → CallLent c pairs block limit₂ out₂ tally₂ r₂ after₂ tally₂' →
    MoreHeld (of_lent b pairs block) (of_lent c pairs block) limit out r after limit₂ out₂ r₂ after₂
