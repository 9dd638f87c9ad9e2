-- What else holds of the queue: paper 02, #113, in words about the definitions; what the proofs keep of a job (`HoldsRun`). The claims that a reader needs are in
-- specs/Claims.
use Rattle.std.specs.Prelude.{◌≡◌, ◌⊎◌, true, false, List, [], ◌∷◌, ◌++◌, ℕ, suc, ◌+◌, ◌*◌, ◌≤◌, ◌<◌, length, replicate, T}
use Rattle.model.specs.Kit.{Memᴰ}
use Rattle.model.specs.{Lists.flat, Verdict.refused, Search.nodes, Sheet.verdict_of, Sheet.problem_of, Run.spent, Run.plans_in, Run.nodes_in, Run.written, Run.tally_at}
use Rattle.run_cut.specs.Parts.{progress_at}
use Rattle.desk.specs.Queue.{Standing, running, over, goes_on, Job, new_job, job_turned, free, taken, is_free, waits, Queue, empty_queue, slot_at, QueueCall, submit, turn, release, QueueReply}
use Rattle.desk.specs.Queue.{refusal, answered, queued, idle, served, released, fits, release_slot, queue_reply, queue_after, queue_end, queue_replies}
use Rattle.desk.specs.{Rounds.turned, Rounds.rounds_queue, Rounds.turns_given, Rounds.due, Inner.Layout.queue_of, Inner.Layout.reply_on, Inner.Layout.bytes_after, Claims.alone, Claims.serves}
use Rattle.desk.specs.{Claims.QueueBytes, Claims.ByteCall}

unfoldable pub times_served : ℕ → List QueueReply → ℕ
times_served k [] = 0
times_served k (r ∷ rs) = elim (serves k r) [ true ↦ suc (times_served k rs) | false ↦ times_served k rs ]

-- a property of the queue before each of the calls
abbrev pub Throughout : (Queue → QueueCall → Type 0) → Queue → List QueueCall → Type 0
Throughout P d [] = Unit {0}
Throughout P d (x ∷ xs) = P d x × Throughout P (queue_after d x) xs

-- the slot is not released: a release that names it is refused
abbrev pub Remains : ℕ → Queue → QueueCall → Type 0
Remains k d (submit b limit) = Unit {0}
Remains k d turn = Unit {0}
Remains k d (release j room) = (j ≡ k) → release_slot (slot_at d j) room ≡ slot_at d j

-- before its run ends, a job holds the run alone as it is after that many nodes, and after its first turn neither the tree nor the limit is at its end;
-- once ended, it holds the plans, the ending, the figures and the counts by variable of the run alone
abbrev pub HoldsRunAs : Job → Standing → Type 0
HoldsRunAs h running =
    (h.progress ≡ progress_at (problem_of h.sheet) h.progress.made)
    × ((h.progress.made ≡ 0)
    ⊎ ((h.progress.made < h.limit) × (h.progress.made < length (nodes (problem_of h.sheet))) ×
    (alone h h.progress.made ≡ record { ending = spent (length h.progress.rows) h.progress.made; rows = h.progress.rows })))
HoldsRunAs h (over e) =
    (alone h h.limit ≡ record { ending = e; rows = h.progress.rows }) × (h.progress.made ≡ nodes_in e) × (length h.progress.rows ≡ plans_in e)
    × (h.progress.counts ≡ (tally_at (problem_of h.sheet) (nodes_in e)).counts)

abbrev pub HoldsRun : Job → Type 0
HoldsRun h = HoldsRunAs h h.standing

abbrev pub AsAlone : Type 0
AsAlone = (xs : List QueueCall) (k : ℕ) (h : Job) → slot_at (queue_end empty_queue xs) k ≡ taken h → HoldsRun h

-- a turn makes 64 nodes, fewer only if the run ends
abbrev pub TurnOf64 : Type 0
TurnOf64 =
    (h : Job) → HoldsRun h → h.standing ≡ running →
    (h.progress.made ≤ (job_turned h).progress.made) × ((job_turned h).progress.made ≤ h.progress.made + 64)
    × ((job_turned h).standing ≡ running → (job_turned h).progress.made ≡ h.progress.made + 64)

-- so a job that goes on has made 64 nodes for each turn that it was given since it was submitted
abbrev pub SixtyFourEach : Type 0
SixtyFourEach =
    (d : Queue) (xs : List QueueCall) (k : ℕ) (b : List ℕ) (limit : ℕ) (g : Job) → slot_at d k ≡ taken (new_job b limit) → Throughout (Remains k) d xs →
    slot_at (queue_end d xs) k ≡ taken g → g.standing ≡ running → g.progress.made ≡ 64 * times_served k (queue_replies d xs)

-- a turn answers the slot served, and how its run stands after it, with its figures
abbrev pub TurnAnswers : Type 0
TurnAnswers =
    (d : Queue) (k : ℕ) (s : Standing) (plans made : ℕ) → queue_reply d turn ≡ answered (served k s plans made) →
    (h : Job) × (slot_at d k ≡ taken h) × (slot_at (queue_after d turn) k ≡ taken (job_turned h))
    × ((job_turned h).standing ≡ s) × (length (job_turned h).progress.rows ≡ plans) × ((job_turned h).progress.made ≡ made)

-- what a slot holds depends on its own turns alone
abbrev pub ByOwnTurns : Type 0
ByOwnTurns =
    (d : Queue) (xs : List QueueCall) (k : ℕ) (h : Job) → slot_at d k ≡ taken h → Throughout (Remains k) d xs →
    slot_at (queue_end d xs) k ≡ taken (turned (times_served k (queue_replies d xs)) h)

-- so two jobs alike, at any slots of any queues, whatever the others do there, are alike again once each was served as often
abbrev pub OthersNothing : Type 0
OthersNothing =
    (d d' : Queue) (xs ys : List QueueCall) (k k' : ℕ) (h : Job) → slot_at d k ≡ taken h → slot_at d' k' ≡ taken h → Throughout (Remains k) d xs → Throughout (Remains k') d' ys →
    times_served k (queue_replies d xs) ≡ times_served k' (queue_replies d' ys) → slot_at (queue_end d xs) k ≡ slot_at (queue_end d' ys) k'

-- a new job gets the lowest free slot, one of the eight
abbrev pub LowestSlot : Type 0
LowestSlot =
    (xs : List QueueCall) (b : List ℕ) (limit k : ℕ) → queue_reply (queue_end empty_queue xs) (submit b limit) ≡ answered (queued k) →
    (k < 8) × (slot_at (queue_end empty_queue xs) k ≡ free) × ((j : ℕ) → j < k → is_free (slot_at (queue_end empty_queue xs) j) ≡ false)
    × (slot_at (queue_after (queue_end empty_queue xs) (submit b limit)) k ≡ taken (new_job b limit))

-- 37 exactly where all eight are taken; any other refusal is the sheet's own, 1 to 16
abbrev pub SlotsTaken : Type 0
SlotsTaken =
    (d : Queue) (b : List ℕ) (limit : ℕ) → (((k : ℕ) → k < 8 → is_free (slot_at d k) ≡ false) → queue_reply d (submit b limit) ≡ refusal 37 0)
    × ((number item : ℕ) → queue_reply d (submit b limit) ≡ refusal number item →
    ((number ≡ 37) × ((k : ℕ) → k < 8 → is_free (slot_at d k) ≡ false)) ⊎ ((1 ≤ number) × (number ≤ 16) × (verdict_of b ≡ refused number item)))

-- and keeps it, with its sheet and its limit, until it is released
abbrev pub KeepsSlot : Type 0
KeepsSlot =
    (d : Queue) (xs : List QueueCall) (k : ℕ) (h : Job) → slot_at d k ≡ taken h → Throughout (Remains k) d xs →
    (g : Job) × (slot_at (queue_end d xs) k ≡ taken g) × (g.sheet ≡ h.sheet) × (g.limit ≡ h.limit)

-- a job that is released has the plans listed so far at the front of the room, and its slot is free
abbrev pub Releases : Type 0
Releases =
    (d : Queue) (k : ℕ) (h : Job) (room : List ℕ) → slot_at d k ≡ taken h → T (fits h room) →
    (queue_reply d (release k room) ≡ answered (released (length (flat h.progress.rows)) (written h.progress.rows room))) × (slot_at (queue_after d (release k room)) k ≡ free)

-- ---- refusals
-- a refused call leaves the queue as it is
abbrev pub RefusedSame : Type 0
RefusedSame = (d : Queue) (x : QueueCall) (number item : ℕ) → queue_reply d x ≡ refusal number item → queue_after d x ≡ d

-- a turn is idle exactly where no job waits, and then does nothing
abbrev pub IdleExactly : Type 0
IdleExactly =
    (d : Queue) → (queue_reply d turn ≡ answered idle → (k : ℕ) → k < 8 → waits (slot_at d k) ≡ false)
    × (((k : ℕ) → k < 8 → waits (slot_at d k) ≡ false) → (queue_reply d turn ≡ answered idle) × (queue_after d turn ≡ d))

-- 38 past the eighth slot
abbrev pub PastEighth : Type 0
PastEighth = (xs : List QueueCall) (k : ℕ) (room : List ℕ) → 8 ≤ k → queue_reply (queue_end empty_queue xs) (release k room) ≡ refusal 38 0

-- a job has had r turns by then, or its run has ended
abbrev pub HadOrEnded : Type 0
HadOrEnded = (r : ℕ) (h : Job) → (due r h ≡ r) ⊎ (goes_on (turned (due r h) h).standing ≡ false)

-- so everything that is said of calls holds of calls with rounds among them: they end as some calls without rounds do
pub data Step : Type 0 where
  call : QueueCall → Step
  rounds : ℕ → Step

unfoldable pub steps_end : Queue → List Step → Queue
steps_end d [] = d
steps_end d (call x ∷ xs) = steps_end (queue_after d x) xs
steps_end d (rounds r ∷ xs) = steps_end (rounds_queue d r) xs

unfoldable pub one_by_one : Queue → List Step → List QueueCall
one_by_one d [] = []
one_by_one d (call x ∷ xs) = x ∷ one_by_one (queue_after d x) xs
one_by_one d (rounds r ∷ xs) = replicate (turns_given d r) turn ++ one_by_one (rounds_queue d r) xs

abbrev pub OneByOne : Type 0
OneByOne = (xs : List Step) → steps_end empty_queue xs ≡ queue_end empty_queue (one_by_one empty_queue xs)

-- calls one after another on bytes
abbrev pub ByteCalls : List QueueCall → Type 0
ByteCalls xs = (x : QueueCall) → Memᴰ x xs → ByteCall x

unfoldable pub bytes_end : List ℕ → List QueueCall → List ℕ
bytes_end b [] = b
bytes_end b (x ∷ xs) = bytes_end (bytes_after b x) xs

unfoldable pub replies_on : List ℕ → List QueueCall → List QueueReply
replies_on b [] = []
replies_on b (x ∷ xs) = reply_on b x ∷ replies_on (bytes_after b x) xs

-- so all that is said of the queue holds of its bytes
abbrev pub AllCalls : Type 0
AllCalls =
    (b : List ℕ) (xs : List QueueCall) → QueueBytes b → ByteCalls xs →
    (queue_of (bytes_end b xs) ≡ queue_end (queue_of b) xs) × (replies_on b xs ≡ queue_replies (queue_of b) xs) × QueueBytes (bytes_end b xs)
