-- Calls that are lent a sheet, pairs and a block: what comes back, and every lent buffer at the end. Each is the function's contract, that of `planner_..`
-- too; promises' `ExportedLent` says what a caller may rely on.
use Rattle.std.specs.Prelude.{◌≡◌, List, ℕ}
use Rattle.export_lent.specs.Lent.{lent_question_code, lent_run_code, lent_run_list, lent_run_answer}

-- `question_lent`: the code that comes back
abbrev pub CallQuestionCode : List ℕ → List ℕ → List ℕ → ℕ → Type 0
CallQuestionCode b pairs block code = code ≡ lent_question_code b pairs block

-- `run_lent`: list and answer as they came, the code, list and answer at the end
abbrev pub CallRunBytes : List ℕ → List ℕ → List ℕ → ℕ → List ℕ → List ℕ → ℕ → List ℕ → List ℕ → Type 0
CallRunBytes b pairs block limit list answer code list' answer' =
    (code ≡ lent_run_code b pairs block limit list answer) × ((list' ≡ lent_run_list b pairs block limit list answer) × (answer' ≡ lent_run_answer b pairs block limit list answer))
