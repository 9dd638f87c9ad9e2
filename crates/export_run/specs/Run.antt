-- planner_question and planner_run: what they answer, and the bytes of every lent buffer afterwards.
use Rattle.std.specs.Prelude.{List, ℕ, ◌+◌, ◌*◌, eqb, length}
use Rattle.model.specs.{Lists.choose, Sheet.verdict_of, Run.Ending, Run.finished, Run.spent, Run.full, Run.Answer, Run.refusal, Run.answered, Run.answer_of, Run.list_of}
use Rattle.wire.specs.Wire.{code_of, wrong_length, three_numbers}

-- ---- planner_question
unfoldable pub question_code : List ℕ → ℕ
question_code b = code_of (verdict_of b)

-- ---- planner_run
-- 1, 2 or 3 for finished, spent or full, then plans and nodes
abbrev pub ending_bytes : Ending → List ℕ
ending_bytes (finished plans made) = three_numbers 1 plans made
ending_bytes (spent plans made) = three_numbers 2 plans made
ending_bytes (full plans made) = three_numbers 3 plans made

-- what a run's answer returns, and the lent answer afterwards: as it came where the sheet was refused
abbrev pub answer_code : Answer → ℕ
answer_code (refusal number item) = number * 256 + item
answer_code (answered e) = 0

abbrev pub answer_bytes : Answer → List ℕ → List ℕ
answer_bytes (refusal number item) answer = answer
answer_bytes (answered e) answer = ending_bytes e

unfoldable pub run_code : List ℕ → ℕ → List ℕ → List ℕ → ℕ
run_code b limit list answer = choose (eqb (length answer) 12) (answer_code (answer_of b limit list)) wrong_length

unfoldable pub run_list : List ℕ → ℕ → List ℕ → List ℕ → List ℕ
run_list b limit list answer = choose (eqb (length answer) 12) (list_of b limit list) list

unfoldable pub run_answer : List ℕ → ℕ → List ℕ → List ℕ → List ℕ
run_answer b limit list answer = choose (eqb (length answer) 12) (answer_bytes (answer_of b limit list) answer) answer
