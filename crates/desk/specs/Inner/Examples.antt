-- Jobs that stay, worked through (proved by computation in proofs/Cases): what is supposed in `Fair`, `AsAlone`, `SixtyFourEach` and `SameAsRun`
-- (specs/Claims, specs/Inner/Claims) is met by them.
use Rattle.std.specs.Prelude.{◌≡◌, List, [], ◌∷◌, map, ℕ, replicate}
use Rattle.model.specs.{Lists.flat, Bytes.two_bytes, Run.finished, Examples.sheet_a}
use Rattle.desk.specs.Queue.{running, over, Queue, empty_queue, new_job, job_turned, taken, slot_at, submit, turn, answered, queued, idle, served, queue_end, queue_replies}
use Rattle.desk.specs.{Status.status_reply, Status.status_counts, Claims.WaitsOn, Inner.Claims.Throughout, Inner.Claims.Remains}

-- three windows, four values, no rule: 4 + 16 + 64 nodes
abbrev pub sheet_open : List ℕ
sheet_open = flat (map two_bytes (3 ∷ 4 ∷ 0 ∷ 0 ∷ 16 ∷ 22 ∷ 22 ∷ 22 ∷ 15 ∷ 15 ∷ 15 ∷ []))

abbrev pub one : Queue
one = queue_end empty_queue (submit sheet_a 1000000 ∷ [])

abbrev pub longer : Queue
longer = queue_end empty_queue (submit sheet_open 1000000 ∷ [])

pub record Stay : Type 0 where
  -- sheet A is submitted, gets a turn and its status is read: it has ended, with three nodes of each of its two variables
  pub replies : queue_replies empty_queue (submit sheet_a 1000000 ∷ turn ∷ turn ∷ []) ≡ answered (queued 0) ∷ answered (served 0 (over (finished 3 6)) 3 6) ∷ answered idle ∷ []
  pub shows : status_reply (queue_end one (turn ∷ [])) 0 ≡ answered (served 0 (over (finished 3 6)) 3 6)
  pub counts : status_counts (queue_end one (turn ∷ [])) 0 ≡ 3 ∷ 3 ∷ replicate 10 0
  pub slot : slot_at (queue_end one (turn ∷ [])) 0 ≡ taken (job_turned (new_job sheet_a 1000000))
  pub ended : (job_turned (new_job sheet_a 1000000)).standing ≡ over (finished 3 6)
  -- a longer run goes on after its first turn, and has made 64 nodes
  pub submit_done : slot_at longer 0 ≡ taken (new_job sheet_open 1000000)
  pub stays : Throughout (Remains 0) longer (turn ∷ [])
  pub still_goes_on : status_reply (queue_end longer (turn ∷ [])) 0 ≡ answered (served 0 running 48 64)
  pub counted : status_counts (queue_end longer (turn ∷ [])) 0 ≡ 4 ∷ 12 ∷ 48 ∷ replicate 9 0
  pub ends : status_reply (queue_end longer (turn ∷ turn ∷ [])) 0 ≡ answered (served 0 (over (finished 64 84)) 64 84)
  pub all : status_counts (queue_end longer (turn ∷ turn ∷ [])) 0 ≡ 4 ∷ 16 ∷ 64 ∷ replicate 9 0
  -- the last of eight jobs waits through eight turns
  pub waits : WaitsOn 7 (queue_end empty_queue (replicate 8 (submit sheet_a 1000000))) (replicate 8 turn)
