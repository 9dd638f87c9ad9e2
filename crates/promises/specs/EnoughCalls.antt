-- At least m plans (paper 02, #101), of what a caller of `at_least` holds, and beside it a caller of `run_lent` with the same sheet, pairs and block.
-- proofs/EnoughCalls has the theorem.
use Rattle.std.specs.Prelude.{◌≡◌, ◌↔◌, List, ℕ, ◌*◌, ◌≤◌, ◌<◌, length, Result, Ok}
use Rattle.model.specs.{Run.plans_in, Verdict.accepted, Verdict.refused, Sheet.problem_of}
use Rattle.order.specs.RunBy.{leaders_by}
use Rattle.run_input.specs.Lent.{verdict_lent, problem_with, order_lent}
use Rattle.run_state.specs.{Meaning.ending_of, declared.Tally.Tally, declared.Ending.Ending}
use Rattle.run.specs.{Calls.CallLent, Calls.CallEnough, declared.Enough.Enough}
use Rattle.run_state.specs.declared.Ending.TheVariants as E
use Rattle.model.specs.{Refusals.IsRefusal, declared.refusals.Refusal.Refusal}
use Rattle.run.specs.declared.Enough.TheVariants as N

-- beside a finished run that listed so many plans after so many trials: yes and no agree with its list; yes or no is said where the limit allows its trials
pub record Agrees (r : Result Enough Refusal) (limit m plans nodes : ℕ) : Type 0 where
  pub yes_so : (k made : ℕ) → r ≡ Ok (N.Yes k made) → m ≤ plans
  pub no_so : (k made : ℕ) → r ≡ Ok (N.No k made) → (plans < m) × (k ≡ plans) × (made ≡ nodes)
  pub decided : nodes ≤ limit → (k made : ℕ) → r ≡ Ok (N.Spent k made) → ⊥
  pub yes_exactly : nodes ≤ limit → ((k : ℕ) × (made : ℕ) × (r ≡ Ok (N.Yes k made))) ↔ (m ≤ plans)

-- a list with room for all plans of a run
abbrev pub Roomy : List ℕ → List ℕ → List ℕ → List ℕ → Type 0
Roomy b pairs block out = length (leaders_by (order_lent b pairs) (problem_with b block)) * (problem_of b).variables ≤ length out

pub record EnoughHeld (b pairs block : List ℕ) (limit m : ℕ) (r : Result Enough Refusal) : Type 0 where
  -- the refusal of the run
  pub refuses : (number item : ℕ) → verdict_lent b pairs block ≡ refused number item → IsRefusal r number item
  -- m = 0: yes without a trial, once every question is passed
  pub none : verdict_lent b pairs block ≡ accepted → m ≡ 0 → r ≡ Ok (N.Yes 0 0)
  -- beside a complete run
  pub agrees : (limit' : ℕ) (out : List ℕ) (tally : Tally) (a : Result Ending Refusal) (after : List ℕ) (tally' : Tally) → CallLent b pairs block limit' out tally a after tally' →
      (plans nodes : ℕ) → a ≡ Ok (E.Finished plans nodes) → Agrees r limit m plans nodes
  -- yes tells m and the trials up to the m-th plan: a run with that allowance lists m plans, and with a smaller one fewer
  pub on_yes : (plans made : ℕ) → r ≡ Ok (N.Yes plans made) → (plans ≡ m) × (made ≤ limit)
      × ((k : ℕ) → k ≤ made → (out : List ℕ) (tally : Tally) (e : Ending) (after : List ℕ) (tally' : Tally) → CallLent b pairs block k out tally (Ok e) after tally' → Roomy b pairs block out →
      (k ≡ made → plans_in (ending_of e) ≡ m) × (k < made → plans_in (ending_of e) < m))
  -- no and spent tell the plans and the trials of a run with the same allowance and room for all plans
  pub on_no : (plans made : ℕ) → r ≡ Ok (N.No plans made) →
      (out : List ℕ) (tally : Tally) (a : Result Ending Refusal) (after : List ℕ) (tally' : Tally) → CallLent b pairs block limit out tally a after tally' → Roomy b pairs block out → a ≡ Ok
      (E.Finished plans made)
  pub on_spent : (plans made : ℕ) → r ≡ Ok (N.Spent plans made) →
      (out : List ℕ) (tally : Tally) (a : Result Ending Refusal) (after : List ℕ) (tally' : Tally) → CallLent b pairs block limit out tally a after tally' → Roomy b pairs block out →
      a ≡ Ok (E.Spent plans made)
  -- the same is said under a larger limit, unless it was spent
  pub more : (limit' : ℕ) (r' : Result Enough Refusal) → CallEnough b pairs block limit' m r' → limit ≤ limit' → ((plans made : ℕ) → r ≡ Ok (N.Spent plans made) → ⊥) → r' ≡ r

abbrev pub EnoughCalls : Type 0
EnoughCalls = (b pairs block : List ℕ) (limit m : ℕ) (r : Result Enough Refusal) → CallEnough b pairs block limit m r → EnoughHeld b pairs block limit m r
