-- `at_least`: the answer as it came, the code, the answer at the end. It is the function's contract, that of `planner_at_least` too; promises'
-- `ExportedLent` says what a caller may rely on.
use Rattle.std.specs.Prelude.{◌≡◌, List, ℕ}
use Rattle.export_enough.specs.Enough.{enough_code, enough_bytes}

abbrev pub CallEnoughBytes : List ℕ → List ℕ → List ℕ → ℕ → ℕ → List ℕ → ℕ → List ℕ → Type 0
CallEnoughBytes b pairs block m limit answer code answer' = (code ≡ enough_code b pairs block m limit answer) × (answer' ≡ enough_bytes b pairs block m limit answer)
