-- Rounds: each slot whose run hasn't ended gets up to r turns.
use Rattle.std.specs.Prelude.{not, map, ℕ, zero, suc, replicate}
use Rattle.model.specs.{Lists.both, Lists.choose, Lists.total, ValueSets.mask_of}
use Rattle.desk.specs.Queue.{goes_on, Job, job_turned, Slot, free, taken, waits, Queue, slot_at, round_from, turn, queue_end, Reply, answered}

-- after m turns
abbrev pub turned : ℕ → Job → Job
turned zero h = h
turned (suc m) h = turned m (job_turned h)

-- how many of r turns a job takes until its run ends
unfoldable pub due : ℕ → Job → ℕ
due zero h = 0
due (suc r) h = choose (goes_on h.standing) (suc (due r (job_turned h))) 0

abbrev pub due_at : ℕ → Slot → ℕ
due_at r free = 0
due_at r (taken h) = due r h

abbrev pub given : ℕ → Job → Job
given r h = turned (due r h) h

-- how many turns that are, and the queue after them, one by one
abbrev pub turns_given : Queue → ℕ → ℕ
turns_given d r = total (map (λ k. due_at r (slot_at d k)) (round_from d.next))

abbrev pub rounds_queue : Queue → ℕ → Queue
rounds_queue d r = queue_end d (replicate (turns_given d r) turn)

-- what rounds answer: the slots whose run ended in them, and those whose run goes on, as sets of slots
abbrev pub ended_in : Queue → ℕ → ℕ
ended_in d r = mask_of (λ k. both (waits (slot_at d k)) (not (waits (slot_at (rounds_queue d r) k))))

abbrev pub going_on : Queue → ℕ → ℕ
going_on d r = mask_of (λ k. waits (slot_at (rounds_queue d r) k))

-- a refusal, or these two sets
abbrev pub RoundsReply : Type 0
RoundsReply = Reply (ℕ × ℕ)

abbrev pub rounds_reply : Queue → ℕ → RoundsReply
rounds_reply d r = answered (ended_in d r, going_on d r)
