-- What the bytes of a queue are after rounds (specs/Rounds).
use Rattle.std.specs.Prelude.{◌≡◌, List, ℕ, length}
use Rattle.desk.specs.{Queue.refusal, Queue.size, Rounds.rounds_queue, Rounds.rounds_reply, Inner.Layout.queue_of, Inner.Layout.rounds_on, Inner.Layout.rounds_after, Claims.QueueBytes}

-- rounds on bytes are rounds on the queue that they mean
abbrev pub RoundsCall : Type 0
RoundsCall =
    (b : List ℕ) (r : ℕ) → QueueBytes b →
    (rounds_on b r ≡ rounds_reply (queue_of b) r) × (queue_of (rounds_after b r) ≡ rounds_queue (queue_of b) r) × QueueBytes (rounds_after b r)

-- bytes of another length get 255, and stay as they came
abbrev pub RoundsOtherSize : Type 0
RoundsOtherSize = (b : List ℕ) (r : ℕ) → (length b ≡ size → ⊥) → (rounds_on b r ≡ refusal 255 0) × (rounds_after b r ≡ b)
