-- What paper 02, #113, asks of the queue, as statements; they can be read without the proofs. Jobs come and go, and turns are given, one call after
-- another on one queue.
use Rattle.std.specs.Prelude.{◌≡◌, ◌⊎◌, Bool, false, List, [], ◌∷◌, ℕ, suc, ◌+◌, ◌*◌, ◌^◌, ◌≤◌, ◌<◌, length, T, eqb}
use Rattle.model.specs.{Lists.any, Lists.at, Search.nodes, Sheet.problem_of, Run.Ending, Run.spent, Run.plans_in, Run.Result, Run.result_of, Run.ended, Run.answer_of, Run.list_of, Run.Tally}
use Rattle.model.specs.{Run.tally_of}
use Rattle.run_cut.specs.Parts.{progress_at}
use Rattle.desk.specs.Queue.{running, over, Job, list_room, job_turned, taken, waits, Queue, empty_queue, slot_at, QueueCall, submit, turn, release, QueueReply, refusal, answered, queued, idle}
use Rattle.desk.specs.Queue.{served, released, queue_reply, queue_after, queue_end, queue_replies, size}
use Rattle.desk.specs.Inner.Layout.{queue_of, reply_on, bytes_after}

-- ---- words
-- the run alone: the job's sheet, a limit, and room for 4,096 plans
abbrev pub alone : Job → ℕ → Result
alone h limit = result_of (problem_of h.sheet) limit (list_room (problem_of h.sheet))

-- a turn that served the slot
abbrev pub serves : ℕ → QueueReply → Bool
serves k (refusal number item) = false
serves k (answered (queued j)) = false
serves k (answered idle) = false
serves k (answered (served j s plans made)) = eqb j k
serves k (answered (released count room)) = false

unfoldable pub turns_in : List QueueCall → ℕ
turns_in [] = 0
turns_in (turn ∷ xs) = suc (turns_in xs)
turns_in (submit b limit ∷ xs) = turns_in xs
turns_in (release k room ∷ xs) = turns_in xs

-- a run waits at the slot before each of the calls
abbrev pub WaitsOn : ℕ → Queue → List QueueCall → Type 0
WaitsOn k d [] = Unit {0}
WaitsOn k d (x ∷ xs) = T (waits (slot_at d k)) × WaitsOn k (queue_after d x) xs

-- ---- the claims, of any sequence of calls from the empty queue
-- a job that stays and has not ended is served within any eight turns, however others come and go
abbrev pub Fair : Type 0
Fair =
    (before xs : List QueueCall) (k : ℕ) → k < 8 → WaitsOn k (queue_end empty_queue before) xs → 8 ≤ turns_in xs →
    T (any (serves k) (queue_replies (queue_end empty_queue before) xs))

-- a job whose run goes on holds the run alone as it is after that many nodes; after its first turn neither the tree nor the limit is at its end, so an ending that
-- needs no further node falls in the same turn; a turn makes 64 nodes, fewer only if the run ends
pub record GoesOn (h : Job) : Type 0 where
  pub so_far : h.progress ≡ progress_at (problem_of h.sheet) h.progress.made
  pub no_end : (h.progress.made ≡ 0)
      ⊎ ((h.progress.made < h.limit) × (h.progress.made < length (nodes (problem_of h.sheet))) ×
      (alone h h.progress.made ≡ record { ending = spent (length h.progress.rows) h.progress.made; rows = h.progress.rows }))
  pub more : (h.progress.made ≤ (job_turned h).progress.made) × ((job_turned h).progress.made ≤ h.progress.made + 64)
  pub all_64 : (job_turned h).standing ≡ running → (job_turned h).progress.made ≡ h.progress.made + 64

abbrev pub GoingOn : Type 0
GoingOn = (xs : List QueueCall) (k : ℕ) (h : Job) → slot_at (queue_end empty_queue xs) k ≡ taken h → h.standing ≡ running → GoesOn h

-- an ended job released into a list with room for 4,096 plans writes what `run_with` writes to such a list, ended as it does, and has its tally
abbrev pub SameAsRun : Type 0
SameAsRun =
    (xs : List QueueCall) (k : ℕ) (h : Job) (e : Ending) (out : List ℕ) (tally : Tally) →
    slot_at (queue_end empty_queue xs) k ≡ taken h → h.standing ≡ over e → length out ≡ list_room (problem_of h.sheet) →
    (answer_of h.sheet h.limit out ≡ ended e)
    × (queue_reply (queue_end empty_queue xs) (release k out) ≡ answered (released (plans_in e * (problem_of h.sheet).variables) (list_of h.sheet h.limit out)))
    × (tally_of h.sheet h.limit out tally ≡ record { nodes = h.progress.made; counts = h.progress.counts })

-- ---- its bytes: `queue_of` says what they mean, and no more of it is needed than these laws
-- bytes of the queue's size, and calls whose sheet is bytes and whose limit has 32 bits
abbrev pub QueueBytes : List ℕ → Type 0
QueueBytes b = (length b ≡ size) × ((i : ℕ) → at b i < 256)

abbrev pub ByteCall : QueueCall → Type 0
ByteCall (submit sheet limit) = ((i : ℕ) → at sheet i < 256) × (limit < 2 ^ 32)
ByteCall turn = Unit {0}
ByteCall (release k room) = Unit {0}

-- zeros are the empty queue
abbrev pub ZerosEmpty : Type 0
ZerosEmpty = (b : List ℕ) → ((i : ℕ) → at b i ≡ 0) → queue_of b ≡ empty_queue

-- each call on bytes is the call on the queue that they mean
abbrev pub EachCall : Type 0
EachCall =
    (b : List ℕ) (x : QueueCall) → QueueBytes b → ByteCall x →
    (reply_on b x ≡ queue_reply (queue_of b) x) × (queue_of (bytes_after b x) ≡ queue_after (queue_of b) x) × QueueBytes (bytes_after b x)

-- bytes of another length get 255, and stay as they came
abbrev pub OtherSize : Type 0
OtherSize = (b : List ℕ) (x : QueueCall) → (length b ≡ size → ⊥) → (reply_on b x ≡ refusal 255 0) × (bytes_after b x ≡ b)
