-- The sheet without exchanges is a sheet (paper 02, #104; proofs/BareSheet), and what "one plan of each family" is (#112).
-- Families are read with all exchanges of the run, the sheet's and the block's.
use Rattle.std.specs.Prelude.{◌≡◌, ◌↔◌, List, ℕ, T}
use Rattle.model.specs.Kit.{Memᴰ}
use Rattle.model.specs.{Problem.is_solution, Verdict.accepted, Sheet.problem_of, Sheet.verdict_of}
use Rattle.order.specs.Reordered.{earlier_by}
use Rattle.run_input.specs.Lent.{problem_with, order_lent}
use Rattle.families.specs.Families.{Joined, OneOfEach, families_of}
use Rattle.families_figure.specs.Figure.{problem_bare, bare_sheet}

-- ---- the bare run is a run
-- of the sheet without exchanges, which is accepted where the sheet is
abbrev pub BareSheet : Type 0
BareSheet = (b : List ℕ) → verdict_of b ≡ accepted → (verdict_of (bare_sheet b) ≡ accepted) × (problem_of (bare_sheet b) ≡ problem_bare b)

-- ---- one of each family
-- closed exchanges: the plans held are exactly one of each family, the one that reads earliest in the order
pub record OneListedEach (b pairs block : List ℕ) (plans : ℕ) (held : List (List ℕ)) : Type 0 where
  pub earliest : (s : List ℕ) → Memᴰ s held ↔ (T (is_solution (problem_of b) s) × ((t : List ℕ) → Joined (problem_with b block) s t → T (earlier_by (order_lent b pairs) t s) → ⊥))
  pub each : (s : List ℕ) → T (is_solution (problem_of b) s) →
      (l : List ℕ) × Memᴰ l held × Joined (problem_with b block) l s × ((m : List ℕ) → Memᴰ m held → Joined (problem_with b block) m s → m ≡ l)
  pub once : OneOfEach (problem_with b block) held
  pub count : plans ≡ families_of (problem_with b block)
