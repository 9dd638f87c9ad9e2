-- What the answers mean.
use Rattle.std.specs.Prelude.{List, ℕ, Result, Ok, Err, Option, Some, None}
use Rattle.model.specs.{Refusals.reply_from, Refusals.reply_from_question, declared.refusals.Question.Question, declared.refusals.Refusal.Refusal}
use Rattle.desk.specs.Queue.{QueueAnswer, QueueReply, refusal, answered, queued, idle, served, released, standing_by}
use Rattle.desk.specs.{Status.no_counts, declared.Stands.Stands, declared.SlotStatus.SlotStatus}

-- of a new job: its slot
abbrev pub means_queued : Result ℕ Refusal → QueueReply
means_queued r = reply_from queued r

abbrev pub stands_as : Stands → QueueAnswer
stands_as s = served s.slot (standing_by s.standing s.plans s.nodes) s.plans s.nodes

-- of a turn: the slot served, or that no run waits
abbrev pub turned_as : Option Stands → QueueAnswer
turned_as None = idle
turned_as (Some s) = stands_as s

abbrev pub means_turned : Result (Option Stands) Question → QueueReply
means_turned r = reply_from_question turned_as r

-- of a job released: the bytes written, given the room afterwards
abbrev pub means_released : Result ℕ Question → List ℕ → QueueReply
means_released r room = reply_from_question (λ (bytes : ℕ). released bytes room) r

-- of the status, and its counts: 0 after a refusal
abbrev pub means_status : Result SlotStatus Question → QueueReply
means_status r = reply_from_question (λ (s : SlotStatus). stands_as s.stands) r

abbrev pub counts_of : Result SlotStatus Question → List ℕ
counts_of (Ok s) = s.counts
counts_of (Err asked) = no_counts

-- the lent room after a reply
abbrev pub room_after : QueueReply → List ℕ → List ℕ
room_after (refusal number item) room = room
room_after (answered (queued k)) room = room
room_after (answered idle) room = room
room_after (answered (served k s plans made)) room = room
room_after (answered (released count after)) room = after
