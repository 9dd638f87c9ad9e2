-- `closed`: the answer as it came, the code, the answer at the end. It is the function's contract, that of `planner_closed` too; promises'
-- `ExportedLent` says what a caller may rely on.
use Rattle.std.specs.Prelude.{◌≡◌, List, ℕ}
use Rattle.export_closed.specs.Closed.{closed_code, closed_answer}

abbrev pub CallClosedBytes : List ℕ → List ℕ → List ℕ → List ℕ → ℕ → List ℕ → Type 0
CallClosedBytes b pairs block answer code answer' = (code ≡ closed_code b pairs block answer) × (answer' ≡ closed_answer b pairs block answer)
