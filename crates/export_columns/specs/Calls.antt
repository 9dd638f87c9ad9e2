-- Calls about columns: what each was lent, the code that comes back, and every lent buffer at the end. Each is the function's contract, that of `planner_..` too.
use Rattle.std.specs.Prelude.{◌≡◌, List, ℕ, length}
use Rattle.list_columns.specs.Columns.{columns_of, rows_of, columns_verdict, rows_verdict}
use Rattle.wire.specs.Outcomes.{lent_code, lent_room, lent_answer}

abbrev pub CallColumnsBytes : ℕ → List ℕ → List ℕ → List ℕ → ℕ → List ℕ → List ℕ → Type 0
CallColumnsBytes n rows out answer code out' answer' =
    (code ≡ lent_code (columns_verdict n rows (length out)) (columns_of n rows) answer)
    × ((out' ≡ lent_room (columns_verdict n rows (length out)) (columns_of n rows) answer out) × (answer' ≡ lent_answer (columns_verdict n rows (length out)) (columns_of n rows) answer))

abbrev pub CallRowsBytes : List ℕ → List ℕ → List ℕ → ℕ → List ℕ → List ℕ → Type 0
CallRowsBytes store out answer code out' answer' =
    (code ≡ lent_code (rows_verdict store (length out)) (rows_of store) answer)
    × ((out' ≡ lent_room (rows_verdict store (length out)) (rows_of store) answer out) × (answer' ≡ lent_answer (rows_verdict store (length out)) (rows_of store) answer))
