-- planner_merge (paper 02, #106): its answer, and a call. The number of bytes written takes two of the answer's numbers: a merged list may have more
-- bytes than 32 bits count.
use Rattle.std.specs.Prelude.{◌≡◌, List, ℕ, ◌%◌, ◌/◌, ◌^◌, eqb, length}
use Rattle.model.specs.{Lists.choose, Verdict.Verdict, Room.Outcome, Room.answered, Room.refusal, Room.outcome_of}
use Rattle.list_merge.specs.Merge.{merged, merge_verdict}
use Rattle.wire.specs.{Wire.three_numbers, Outcomes.lent_code, Outcomes.lent_room}

-- kind 1, the number of bytes written, its low half and its high half; after a refusal the answer is as it came
abbrev pub merge_outcome : Outcome → List ℕ → List ℕ
merge_outcome (answered k) answer = three_numbers 1 (k % 2 ^ 32) (k / 2 ^ 32)
merge_outcome (refusal number item) answer = answer

unfoldable pub merge_answer : Verdict → List ℕ → List ℕ → List ℕ
merge_answer v text answer = choose (eqb (length answer) 12) (merge_outcome (outcome_of v text) answer) answer

-- a call: what it was lent, the code that comes back, room and answer at the end. It is the function's contract.
pub record CallMerged (n : ℕ) (pairs a b room answer : List ℕ) (code : ℕ) (room' answer' : List ℕ) : Type 0 where
  pub returns : code ≡ lent_code (merge_verdict n pairs a b (length room)) (merged n pairs a b) answer
  pub leaves : room' ≡ lent_room (merge_verdict n pairs a b (length room)) (merged n pairs a b) answer room
  pub tells : answer' ≡ merge_answer (merge_verdict n pairs a b (length room)) (merged n pairs a b) answer
