-- Retyped exchanges: the same answer to "at least m plans?" and the same families. The proofs are in proofs/LentRetyped.antt.
use Rattle.std.specs.Prelude.{◌≡◌, ◌↔◌, List, ℕ}
use Rattle.model.specs.Verdict.{accepted}
use Rattle.run_input.specs.Lent.{verdict_lent, problem_with}
use Rattle.families.specs.Families.{Joined, families_of}
use Rattle.families_figure.specs.Figure.{families_lent}
use Rattle.run_enough.specs.Lent.{enough_lent}
use Rattle.run_retyped.specs.Retyped.{SameButOrder}

-- the same answer to "at least m plans?" (#101)
abbrev pub RetypedEnough : Type 0
RetypedEnough =
    (b c pairs block : List ℕ) → verdict_lent b pairs block ≡ accepted → SameButOrder b c → (limit m : ℕ) → enough_lent c pairs block limit m ≡ enough_lent b pairs block limit m

-- the same families, and the same figure (#104)
abbrev pub RetypedFamilies : Type 0
RetypedFamilies =
    (b c pairs block : List ℕ) → verdict_lent b pairs block ≡ accepted → SameButOrder b c →
    (families_of (problem_with c block) ≡ families_of (problem_with b block))
    × ((s t : List ℕ) → Joined (problem_with c block) s t ↔ Joined (problem_with b block) s t)
    × ((limit room : ℕ) → families_lent c pairs block limit room ≡ families_lent b pairs block limit room)
