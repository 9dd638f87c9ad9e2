-- What is answered about a position, and what the lent room holds afterwards.
use Rattle.std.specs.Prelude.{List, [], ℕ, Result, Ok, Err, ltb, leb, length, get_or}
use Rattle.model.specs.{Verdict.Verdict, Verdict.accepted, Verdict.ask, Room.Outcome, Room.wrote, Room.refusal, Room.outcome_of, Room.room_after}
use Rattle.model.specs.{Refusals.number_of, declared.refusals.Question.Question}
use Rattle.sheet_small.specs.Small.{small_sheets}

-- the length that was written, or the question whose answer is no, which is asked once
abbrev pub means : Result ℕ Question → Outcome
means (Ok bytes) = wrote bytes
means (Err asked) = refusal (number_of asked) 0

-- the sheet at a position, from 0
unfoldable pub sheet_at : ℕ → List ℕ
sheet_at k = get_or small_sheets k []

-- 39 past the last; 40, asked after 39, where the room is under 52 bytes
unfoldable pub position_verdict : ℕ → List ℕ → Verdict
position_verdict k room = ask (ltb k (length small_sheets)) 39 0 (ask (leb 52 (length room)) 40 0 accepted)

unfoldable pub small_outcome : ℕ → List ℕ → Outcome
small_outcome k room = outcome_of (position_verdict k room) (sheet_at k)

unfoldable pub small_room : ℕ → List ℕ → List ℕ
small_room k room = room_after (position_verdict k room) (sheet_at k) room
