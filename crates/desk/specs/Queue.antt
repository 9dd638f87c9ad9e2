-- A queue of jobs in eight slots (paper 02, #113: a desk, its halls and seats): a sheet, a limit (the allowance) and the run so far each; a turn makes 64 nodes (trials)
-- of one of the runs.
use Rattle.std.specs.Prelude.{Bool, true, false, List, [], ◌∷◌, map, ℕ, zero, suc, ◌+◌, ◌*◌, ◌%◌, min, length, set, get_or, replicate, leb, ltb}
use Rattle.model.specs.Run.{Ending, finished, spent, full, Result, written}
use Rattle.model.specs.{Lists.flat, Lists.below, Problem.Problem, Verdict.Verdict, Verdict.accepted, Verdict.refused, Sheet.verdict_of, Sheet.problem_of}
pub use Rattle.model.specs.Verdict.{Reply, refusal, answered}
use Rattle.run_cut.specs.Parts.{Progress, start, go_on, progress_after}

-- ---- its numbers
-- the plans that a list has room for
abbrev pub LIST_PLANS : ℕ
LIST_PLANS = 4096

-- the nodes of a turn, unless the run ends in it
abbrev pub QUANTUM : ℕ
QUANTUM = 64

-- the bytes that a queue is lent in
abbrev pub size : ℕ
size = 839065

-- ---- a job at its slot
pub data Standing : Type 0 where
  running : Standing
  over : Ending → Standing

-- how a run stands, by its number and its figures
abbrev pub standing_by : ℕ → ℕ → ℕ → Standing
standing_by zero plans made = running
standing_by (suc zero) plans made = over (finished plans made)
standing_by (suc (suc zero)) plans made = over (spent plans made)
standing_by (suc (suc (suc k))) plans made = over (full plans made)

abbrev pub goes_on : Standing → Bool
goes_on running = true
goes_on (over e) = false

pub record Job : Type 0 where
  pub sheet : List ℕ
  pub limit : ℕ
  pub progress : Progress
  pub standing : Standing

abbrev pub new_job : List ℕ → ℕ → Job
new_job b limit = record { sheet = b; limit = limit; progress = start; standing = running }

-- room for 4,096 plans, in bytes
abbrev pub list_room : Problem → ℕ
list_room p = LIST_PLANS * p.variables

-- how many nodes are made at the end of a turn that does not end the run before
abbrev pub turn_limit : Job → ℕ
turn_limit h = min h.limit (h.progress.made + QUANTUM)

-- spent before the limit is made: the run goes on at the next turn
abbrev pub standing_after : ℕ → Ending → Standing
standing_after limit (finished plans made) = over (finished plans made)
standing_after limit (full plans made) = over (full plans made)
standing_after limit (spent plans made) = elim (ltb made limit) [ true ↦ running | false ↦ over (spent plans made) ]

-- the job after a turn, given how the rest of its run up to the turn's limit ended
abbrev pub job_after : Job → Result → Job
job_after h r = record {
  sheet = h.sheet;
  limit = h.limit;
  progress = progress_after (problem_of h.sheet) h.progress r;
  standing = standing_after h.limit r.ending;
}

unfoldable pub job_turned : Job → Job
job_turned h = job_after h (go_on (problem_of h.sheet) (turn_limit h) (list_room (problem_of h.sheet)) h.progress)

-- ---- the queue
pub data Slot : Type 0 where
  free : Slot
  taken : Job → Slot

abbrev pub is_free : Slot → Bool
is_free free = true
is_free (taken h) = false

-- a job is there whose run hasn't ended
abbrev pub waits : Slot → Bool
waits free = false
waits (taken h) = goes_on h.standing

abbrev pub slot_turned : Slot → Slot
slot_turned free = free
slot_turned (taken h) = taken (job_turned h)

-- next is where the next turn begins to look: behind the slot last served, at first at slot 0
pub record Queue : Type 0 where
  pub slots : List Slot
  pub next : ℕ

abbrev pub empty_queue : Queue
empty_queue = record { slots = replicate 8 free; next = 0 }

-- a slot past the eighth is free
abbrev pub slot_at : Queue → ℕ → Slot
slot_at d k = get_or d.slots k free

-- the first of some slots that passes a test
pub data Found : Type 0 where
  none_found : Found
  slot : ℕ → Found

unfoldable pub first_of : (ℕ → Bool) → List ℕ → Found
first_of q [] = none_found
first_of q (k ∷ ks) = elim (q k) [ true ↦ slot k | false ↦ first_of q ks ]

abbrev pub lowest_free : Queue → Found
lowest_free d = first_of (λ k. is_free (slot_at d k)) (below 8)

-- once round the slots
abbrev pub round_from : ℕ → List ℕ
round_from k = map (λ i. (k + i) % 8) (below 8)

abbrev pub to_serve : Queue → Found
to_serve d = first_of (λ k. waits (slot_at d k)) (round_from d.next)

-- ---- the calls
-- submit a sheet with a limit; give a turn; release a slot, with room for the plans listed so far
pub data QueueCall : Type 0 where
  submit : List ℕ → ℕ → QueueCall
  turn : QueueCall
  release : ℕ → List ℕ → QueueCall

-- the slot of a new job; no run waits; the slot served, how its run stands, its plans and its nodes so far; the bytes written, and the room afterwards
pub data QueueAnswer : Type 0 where
  queued : ℕ → QueueAnswer
  idle : QueueAnswer
  served : ℕ → Standing → ℕ → ℕ → QueueAnswer
  released : ℕ → List ℕ → QueueAnswer

abbrev pub QueueReply : Type 0
QueueReply = Reply QueueAnswer

-- how the job at a slot stands, with its figures; at a free slot as one that was never served
abbrev pub job_in : Slot → Job
job_in free = new_job [] 0
job_in (taken h) = h

abbrev pub served_as : ℕ → Slot → QueueReply
served_as k s = answered (served k (job_in s).standing (length (job_in s).progress.rows) (job_in s).progress.made)

abbrev pub with_slot : Queue → ℕ → Slot → Queue
with_slot d k s = record { slots = set d.slots k s; next = d.next }

-- submitting: 37, then the sheet's questions
abbrev pub submit_reply : Found → Verdict → QueueReply
submit_reply none_found v = refusal 37 0
submit_reply (slot k) (refused number item) = refusal number item
submit_reply (slot k) accepted = answered (queued k)

abbrev pub submit_queue : Found → Verdict → Queue → Job → Queue
submit_queue none_found v d h = d
submit_queue (slot k) (refused number item) d h = d
submit_queue (slot k) accepted d h = with_slot d k (taken h)

-- a turn: the slot served, and how it stands after it; with no such slot it does nothing and says so
abbrev pub turn_reply : Found → Queue → QueueReply
turn_reply none_found d = answered idle
turn_reply (slot k) d = served_as k (slot_turned (slot_at d k))

abbrev pub turn_queue : Found → Queue → Queue
turn_queue none_found d = d
turn_queue (slot k) d = record { slots = set d.slots k (slot_turned (slot_at d k)); next = (k + 1) % 8 }

-- releasing: 38, then 22; the plans listed so far at the front of the room
abbrev pub fits : Job → List ℕ → Bool
fits h room = leb (length (flat h.progress.rows)) (length room)

abbrev pub release_for : Bool → Job → List ℕ → QueueReply
release_for true h room = answered (released (length (flat h.progress.rows)) (written h.progress.rows room))
release_for false h room = refusal 22 0

abbrev pub release_reply : Slot → List ℕ → QueueReply
release_reply free room = refusal 38 0
release_reply (taken h) room = release_for (fits h room) h room

abbrev pub release_slot : Slot → List ℕ → Slot
release_slot free room = free
release_slot (taken h) room = elim (fits h room) [ true ↦ free | false ↦ taken h ]

abbrev pub queue_reply : Queue → QueueCall → QueueReply
queue_reply d (submit b limit) = submit_reply (lowest_free d) (verdict_of b)
queue_reply d turn = turn_reply (to_serve d) d
queue_reply d (release k room) = release_reply (slot_at d k) room

abbrev pub queue_after : Queue → QueueCall → Queue
queue_after d (submit b limit) = submit_queue (lowest_free d) (verdict_of b) d (new_job b limit)
queue_after d turn = turn_queue (to_serve d) d
queue_after d (release k room) = with_slot d k (release_slot (slot_at d k) room)

unfoldable pub queue_end : Queue → List QueueCall → Queue
queue_end d [] = d
queue_end d (x ∷ xs) = queue_end (queue_after d x) xs

unfoldable pub queue_replies : Queue → List QueueCall → List QueueReply
queue_replies d [] = []
queue_replies d (x ∷ xs) = queue_reply d x ∷ queue_replies (queue_after d x) xs
