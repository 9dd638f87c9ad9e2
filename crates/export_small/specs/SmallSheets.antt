-- planner_small_sheet (paper 02, #114): what it answers, and the bytes of both lent buffers afterwards. Where the answer has not 12 bytes
-- nothing is changed.
use Rattle.std.specs.Prelude.{true, false, List, ℕ, eqb, length}
use Rattle.sheet_small.specs.Answers.{small_outcome, small_room}
use Rattle.wire.specs.{Wire.wrong_length, Outcomes.outcome_code, Outcomes.outcome_answer}

unfoldable pub small_code : ℕ → List ℕ → List ℕ → ℕ
small_code k out answer = elim (eqb (length answer) 12) [ true ↦ outcome_code (small_outcome k out) | false ↦ wrong_length ]

unfoldable pub small_out : ℕ → List ℕ → List ℕ → List ℕ
small_out k out answer = elim (eqb (length answer) 12) [ true ↦ small_room k out | false ↦ out ]

unfoldable pub small_answer : ℕ → List ℕ → List ℕ → List ℕ
small_answer k out answer = elim (eqb (length answer) 12) [ true ↦ outcome_answer (small_outcome k out) answer | false ↦ answer ]
