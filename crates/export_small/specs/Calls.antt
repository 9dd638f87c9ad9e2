-- The call about small sheets: what it was lent, the code that comes back, and both lent buffers at the end. It is the function's contract, that of
-- `planner_small_sheet` too.
use Rattle.std.specs.Prelude.{◌≡◌, List, ℕ}
use Rattle.export_small.specs.SmallSheets.{small_code, small_out, small_answer}

abbrev pub CallSmallBytes : ℕ → List ℕ → List ℕ → ℕ → List ℕ → List ℕ → Type 0
CallSmallBytes k out answer code out' answer' = (code ≡ small_code k out answer) × ((out' ≡ small_out k out answer) × (answer' ≡ small_answer k out answer))
