-- The figure of a run, and one plan of each family: what promises' `FamilyCalls` says of callers, over the definitions. The proofs are in proofs/FamiliesLent.
use Rattle.std.specs.Prelude.{◌≡◌, ◌↔◌, ◌⊎◌, List, [], ℕ, length, T}
use Rattle.model.specs.Kit.{Memᴰ}
use Rattle.model.specs.{Problem.is_solution, Verdict.accepted, Sheet.header_of, Sheet.problem_of, Run.Ending, Run.finished, Run.ended, Run.written}
use Rattle.order.specs.RunBy.{result_by}
use Rattle.run_input.specs.Lent.{verdict_lent, problem_with, order_lent, answer_lent, list_lent, plans_lent}
use Rattle.families.specs.Families.{FamilyCount, Closed, families_of}
use Rattle.families_figure.specs.{Figure.problem_bare, Figure.bare_sheet, Figure.number, Figure.dash, Figure.families_lent, FigureClaims.OneListedEach}

-- ---- the figure
-- the run that is lent the block, and the bare one, ended so
abbrev pub ran_with : List ℕ → List ℕ → List ℕ → ℕ → ℕ → Ending
ran_with b pairs block limit room = (result_by (order_lent b pairs) (problem_with b block) limit room).ending

abbrev pub ran_bare : List ℕ → List ℕ → ℕ → ℕ → Ending
ran_bare b pairs limit room = (result_by (order_lent b pairs) (problem_bare b) limit room).ending

abbrev pub Finished : Ending → Type 0
Finished e = (plans : ℕ) × (made : ℕ) × (e ≡ finished plans made)

-- a number where both runs are finished, and then that of the families; else the dash
pub record FamiliesLent (b pairs block : List ℕ) (limit room : ℕ) : Type 0 where
  pub count : FamilyCount (problem_with b block)
  pub counted : Finished (ran_with b pairs block limit room) → Finished (ran_bare b pairs limit room) → families_lent b pairs block limit room ≡ number (families_of (problem_with b block))
  pub dashed : ((Finished (ran_with b pairs block limit room) → ⊥) ⊎ (Finished (ran_bare b pairs limit room) → ⊥)) → families_lent b pairs block limit room ≡ dash
  -- where the bare run is finished the other is too, so the dash says just that the bare run isn't
  pub bare_enough : Finished (ran_bare b pairs limit room) → Finished (ran_with b pairs block limit room)
  -- a finished bare run lists exactly the solutions
  pub bare_lists : Finished (ran_bare b pairs limit room) → (s : List ℕ) → Memᴰ s (result_by (order_lent b pairs) (problem_bare b) limit room).rows ↔ T (is_solution (problem_of b) s)
  -- without exchanges the two runs are one
  pub none : (problem_with b block).symmetries ≡ [] → ran_with b pairs block limit room ≡ ran_bare b pairs limit room

abbrev pub FamiliesLentClaim : Type 0
FamiliesLentClaim = (b pairs block : List ℕ) (limit room : ℕ) → verdict_lent b pairs block ≡ accepted → FamiliesLent b pairs block limit room

abbrev pub BareRun : Type 0
BareRun =
    (b pairs block : List ℕ) (limit : ℕ) (out : List ℕ) → verdict_lent b pairs block ≡ accepted →
    (answer_lent (bare_sheet b) pairs [] limit out ≡ ended (ran_bare b pairs limit (length out)))
    × (list_lent (bare_sheet b) pairs [] limit out ≡ written (result_by (order_lent b pairs) (problem_bare b) limit (length out)).rows out)

abbrev pub OneOfEachLent : Type 0
OneOfEachLent =
    (b pairs block : List ℕ) (limit : ℕ) (out : List ℕ) (plans made : ℕ) → Closed (problem_with b block) → answer_lent b pairs block limit out ≡ ended (finished plans made) →
    OneListedEach b pairs block plans (plans_lent b pairs block limit out (finished plans made))

-- a block used with no exchanges of the sheet is closed
abbrev pub BlockAloneClosed : Type 0
BlockAloneClosed = (b pairs block : List ℕ) → verdict_lent b pairs block ≡ accepted → (header_of b).symmetries ≡ 0 → Closed (problem_with b block)

-- so a finished run with a block alone lists one plan of each family
abbrev pub BlockAloneOneEach : Type 0
BlockAloneOneEach =
    (b pairs block : List ℕ) (limit : ℕ) (out : List ℕ) (plans made : ℕ) → (header_of b).symmetries ≡ 0 → answer_lent b pairs block limit out ≡ ended (finished plans made) →
    OneListedEach b pairs block plans (plans_lent b pairs block limit out (finished plans made))
