-- Families (paper 02, #104) and one plan of each (#112), of what callers hold: of `families`, and of `run_lent` with the same sheet, pairs and block.
-- proofs/FamilyCalls has the theorems.
use Rattle.std.specs.Prelude.{◌≡◌, ◌↔◌, List, [], ℕ, ◌*◌, length, Result, Ok, Option, None, Some}
use Rattle.model.specs.{Verdict.accepted, Verdict.refused, Sheet.header_of, Sheet.problem_of}
use Rattle.families_count.specs.{Calls.CallFamilies}
use Rattle.run_input.specs.Lent.{verdict_lent, problem_with}
use Rattle.families.specs.Families.{Closed, FamilyCount, families_of}
use Rattle.families_figure.specs.{Figure.bare_sheet, FigureClaims.OneListedEach}
use Rattle.promises.specs.DemandsLent.{plans_from}
use Rattle.run.specs.{Calls.CallLent}
use Rattle.model.specs.{Refusals.IsRefusal, declared.refusals.Refusal.Refusal}
use Rattle.run_state.specs.{declared.Tally.Tally, declared.Ending.Ending, declared.Ending.TheVariants.Finished as Done}

-- ---- families
pub record FamiliesHeld (b pairs block : List ℕ) (limit : ℕ) (r : Result (Option ℕ) Refusal) : Type 0 where
  -- the refusal of the run
  pub refuses : (n i : ℕ) → verdict_lent b pairs block ≡ refused n i → IsRefusal r n i
  -- a number is that of the families
  pub counts : (k : ℕ) → r ≡ Ok (Some k) → (k ≡ families_of (problem_with b block)) × FamilyCount (problem_with b block)
  -- beside a run of the sheet without exchanges, with the same pairs, this limit and room for 4,096 plans: a number is told where it is finished, and the
  -- dash exactly where it isn't
  pub numbered : verdict_lent b pairs block ≡ accepted → (out : List ℕ) (tally : Tally) (a : Result Ending Refusal) (after : List ℕ) (tally' : Tally) → CallLent
      (bare_sheet b) pairs [] limit out tally a after tally' →
      length out ≡ 4096 * (problem_of b).variables → (plans nodes : ℕ) → a ≡ Ok (Done plans nodes) → r ≡ Ok (Some (families_of (problem_with b block)))
  pub dashed : verdict_lent b pairs block ≡ accepted → (out : List ℕ) (tally : Tally) (a : Result Ending Refusal) (after : List ℕ) (tally' : Tally) → CallLent
      (bare_sheet b) pairs [] limit out tally a after tally' →
      length out ≡ 4096 * (problem_of b).variables → (r ≡ Ok None) ↔ ((plans nodes : ℕ) → a ≡ Ok (Done plans nodes) → ⊥)

abbrev pub FamiliesCalls : Type 0
FamiliesCalls = (b pairs block : List ℕ) (limit : ℕ) (r : Result (Option ℕ) Refusal) → CallFamilies b pairs block limit r → FamiliesHeld b pairs block limit r

-- ---- one of each family
-- a finished run under closed exchanges: the plans in the caller's list are exactly one of each family, the one that reads earliest in the order of the run
abbrev pub OneOfEachCalls : Type 0
OneOfEachCalls =
    (b pairs block : List ℕ) (limit : ℕ) (out : List ℕ) (tally : Tally) (r : Result Ending Refusal) (after : List ℕ) (tally' : Tally) → CallLent b pairs block limit out tally r after tally' →
    (plans nodes : ℕ) → r ≡ Ok (Done plans nodes) → Closed (problem_with b block) → OneListedEach b pairs block plans (plans_from b plans after)

-- closed they are where `closed` says so (crate families_closed's `ClosedCalls`), and where a block is used with no exchanges of the sheet
abbrev pub BlockCalls : Type 0
BlockCalls =
    (b pairs block : List ℕ) (limit : ℕ) (out : List ℕ) (tally : Tally) (r : Result Ending Refusal) (after : List ℕ) (tally' : Tally) → CallLent b pairs block limit out tally r after tally' →
    (plans nodes : ℕ) → r ≡ Ok (Done plans nodes) → (header_of b).symmetries ≡ 0 → OneListedEach b pairs block plans (plans_from b plans after)
