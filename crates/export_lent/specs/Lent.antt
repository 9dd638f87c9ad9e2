-- Calls that are lent a sheet, pairs and a block (paper 02, #107, #108 and #111).
use Rattle.std.specs.Prelude.{List, ◌++◌, ℕ, eqb, length}
use Rattle.model.specs.{Lists.choose, Run.Answer, Run.refusal, Run.answered, Run.nodes_in}
use Rattle.order.specs.RunBy.{place_counts}
use Rattle.run_input.specs.Lent.{verdict_lent, problem_with, order_lent, answer_lent, list_lent}
use Rattle.wire.specs.Wire.{code_of, wrong_length}
use Rattle.export_run.specs.Run.{ending_bytes, answer_code}
use Rattle.export_counts.specs.Tallied.{numbers_of}

-- ---- planner_question_lent
unfoldable pub lent_question_code : List ℕ → List ℕ → List ℕ → ℕ
lent_question_code b pairs block = code_of (verdict_lent b pairs block)

-- ---- planner_run_lent
-- the ending as three numbers, then the nodes made by the place that each settles; as it came where something was refused
abbrev pub placed_bytes : List ℕ → List ℕ → List ℕ → Answer → List ℕ → List ℕ
placed_bytes b pairs block (refusal number item) answer = answer
placed_bytes b pairs block (answered e) answer = ending_bytes e ++ numbers_of (place_counts (order_lent b pairs) (problem_with b block) (nodes_in e))

-- where the answer has not 60 bytes nothing is changed
unfoldable pub lent_run_code : List ℕ → List ℕ → List ℕ → ℕ → List ℕ → List ℕ → ℕ
lent_run_code b pairs block limit list answer = choose (eqb (length answer) 60) (answer_code (answer_lent b pairs block limit list)) wrong_length

unfoldable pub lent_run_list : List ℕ → List ℕ → List ℕ → ℕ → List ℕ → List ℕ → List ℕ
lent_run_list b pairs block limit list answer = choose (eqb (length answer) 60) (list_lent b pairs block limit list) list

unfoldable pub lent_run_answer : List ℕ → List ℕ → List ℕ → ℕ → List ℕ → List ℕ → List ℕ
lent_run_answer b pairs block limit list answer = choose (eqb (length answer) 60) (placed_bytes b pairs block (answer_lent b pairs block limit list) answer) answer
