-- Calls that write a text to lent room under a verdict (paper 02): what they return, and the bytes of the room and of the answer afterwards.
use Rattle.std.specs.Prelude.{List, ℕ, ◌+◌, ◌*◌, eqb, length}
use Rattle.model.specs.{Lists.choose, Verdict.Verdict, Room.Outcome, Room.answered, Room.refusal, Room.outcome_of, Room.room_after}
use Rattle.wire.specs.Wire.{wrong_length, three_numbers}

-- 0, or the number and the item of the refusal
abbrev pub outcome_code : Outcome → ℕ
outcome_code (answered k) = 0
outcome_code (refusal number item) = number * 256 + item

-- kind 1, the number of bytes written, 0; after a refusal the answer is as it came
abbrev pub outcome_answer : Outcome → List ℕ → List ℕ
outcome_answer (answered k) answer = three_numbers 1 k 0
outcome_answer (refusal number item) answer = answer

-- where the answer has not 12 bytes nothing is changed
unfoldable pub lent_code : Verdict → List ℕ → List ℕ → ℕ
lent_code v text answer = choose (eqb (length answer) 12) (outcome_code (outcome_of v text)) wrong_length

unfoldable pub lent_room : Verdict → List ℕ → List ℕ → List ℕ → List ℕ
lent_room v text answer room = choose (eqb (length answer) 12) (room_after v text room) room

unfoldable pub lent_answer : Verdict → List ℕ → List ℕ → List ℕ
lent_answer v text answer = choose (eqb (length answer) 12) (outcome_answer (outcome_of v text) answer) answer
