-- The status of a slot: how its run stands, and its nodes by variable (paper 02, #107, of a run at the desk).
use Rattle.std.specs.Prelude.{List, ℕ, replicate}
use Rattle.desk.specs.Queue.{Slot, free, taken, Queue, slot_at, QueueReply, refusal, job_in, served_as}

-- 38 where it is free
abbrev pub status_for : ℕ → Slot → QueueReply
status_for k free = refusal 38 0
status_for k (taken h) = served_as k (taken h)

abbrev pub status_reply : Queue → ℕ → QueueReply
status_reply d k = status_for k (slot_at d k)

-- and its nodes by variable, twelve counts; zeros where it is free
abbrev pub no_counts : List ℕ
no_counts = replicate 12 0

abbrev pub status_counts : Queue → ℕ → List ℕ
status_counts d k = (job_in (slot_at d k)).progress.counts
