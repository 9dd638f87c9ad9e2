-- The queue's bytes: eight slots, and one byte for the slot where the next turn begins to look; specs/Inner/Places says where a slot has what. Any bytes of the
-- queue's size are a queue; zeros are the empty one.
use Rattle.std.specs.Prelude.{List, [], ◌∷◌, ◌++◌, map, ℕ, ◌+◌, ◌-◌, ◌*◌, ◌%◌, min, length, take, drop, set, replicate, eqb}
use Rattle.model.specs.{Lists.at, Lists.choose, Lists.flat, Lists.below, Lists.tabulate, Verdict.Verdict, Verdict.accepted, Verdict.refused, Sheet.«word», Sheet.verdict_of, Bytes.two_bytes}
use Rattle.model.specs.{Bytes.four_bytes, Written.placed, Run.finished, Run.spent, Run.full, Run.listed_plans}
use Rattle.sheet.specs.Meaning.{compilable}
use Rattle.desk.specs.Queue.{LIST_PLANS, size, Standing, running, over, standing_by, Job, job_turned, Slot, free, taken, Queue, slot_at, Found, none_found, slot, lowest_free, to_serve, QueueCall}
use Rattle.desk.specs.Queue.{submit, turn, release, QueueReply, refusal, fits, queue_reply, round_from}
use Rattle.desk.specs.{Status.status_reply, Status.no_counts, Status.status_counts, Rounds.due_at, Rounds.given, Rounds.rounds_queue, Rounds.RoundsReply, Rounds.rounds_reply}
use Rattle.desk.specs.Inner.Places.{LENGTH, LIMIT, STANDING, NODES, PLANS, DEPTH, LAST, COUNTS, SHEET, SHEET_BYTES, LIST, LIST_BYTES, SLOT, NEXT}

-- where slot k starts
abbrev pub slot_place : ℕ → ℕ
slot_place k = SLOT * k

-- ---- what the bytes mean
-- a number in four bytes
unfoldable pub long : List ℕ → ℕ → ℕ
long b o = «word» b o + 65536 * «word» b (o + 2)

-- The numbers of the slot at p. One that is too large counts as the largest: 3 for how the run stands, 55,656 bytes of the sheet, 4,096 plans,
-- twelve values of the last node, twelve variables; the limit for the nodes, and these for each of their counts
abbrev pub standing_at : List ℕ → ℕ → ℕ
standing_at b p = min 3 (at b (p + STANDING))

abbrev pub sheet_length : List ℕ → ℕ → ℕ
sheet_length b p = min SHEET_BYTES («word» b (p + LENGTH))

abbrev pub nodes_at : List ℕ → ℕ → ℕ
nodes_at b p = min (long b (p + LIMIT)) (long b (p + NODES))

unfoldable pub counts_at : List ℕ → ℕ → List ℕ
counts_at b p = tabulate 12 (λ x. min (nodes_at b p) (long b (p + COUNTS + 4 * x)))

abbrev pub plans_at : List ℕ → ℕ → ℕ
plans_at b p = min LIST_PLANS («word» b (p + PLANS))

-- a plan has as many bytes as the sheet's first number says
abbrev pub width_at : List ℕ → ℕ → ℕ
width_at b p = min 12 («word» b (p + SHEET))

unfoldable pub rows_at : List ℕ → ℕ → List (List ℕ)
rows_at b p = listed_plans (width_at b p) (plans_at b p) (take LIST_BYTES (drop (p + LIST) b))

unfoldable pub last_at : List ℕ → ℕ → List ℕ
last_at b p = take (min 12 (at b (p + DEPTH))) (drop (p + LAST) b)

-- Bytes that questions 1 to 15 refuse count as the sheet of no bytes, which has no nodes: its run finishes at the next turn. Question 16 is asked
-- only when a job is submitted: a turn needs none of it
unfoldable pub sheet_at : List ℕ → ℕ → List ℕ
sheet_at b p =
    let sheet = take (sheet_length b p) (drop (p + SHEET) b) in
    choose (compilable sheet) sheet []

unfoldable pub job_at : List ℕ → ℕ → Job
job_at b p =
    record {
      sheet = sheet_at b p;
      limit = long b (p + LIMIT);
      progress = record {
        made = nodes_at b p;
        counts = counts_at b p;
        rows = rows_at b p;
        last = last_at b p;
      };
      standing = standing_by (standing_at b p) (plans_at b p) (nodes_at b p);
    }

unfoldable pub slot_of : List ℕ → ℕ → Slot
slot_of b k = choose (eqb (at b (slot_place k)) 0) free (taken (job_at b (slot_place k)))

abbrev pub queue_of : List ℕ → Queue
queue_of b = record { slots = map (slot_of b) (below 8); next = at b NEXT }

-- ---- the bytes that a call leaves
-- a new job's slot, up to the end of its sheet; the bytes after it stay
unfoldable pub head_bytes : ℕ → ℕ → List ℕ
head_bytes length limit = (1 ∷ two_bytes length) ++ four_bytes limit ++ replicate 68 0

unfoldable pub slot_bytes : List ℕ → ℕ → List ℕ
slot_bytes sheet limit = head_bytes (length sheet) limit ++ sheet

abbrev pub submit_bytes : Found → Verdict → List ℕ → List ℕ → List ℕ
submit_bytes none_found v b t = b
submit_bytes (slot k) (refused number item) b t = b
submit_bytes (slot k) accepted b t = placed b (slot_place k) t

-- releasing clears the flag alone
abbrev pub release_bytes : Slot → List ℕ → ℕ → List ℕ → List ℕ
release_bytes free b k room = b
release_bytes (taken h) b k room = choose (fits h room) (set b (slot_place k) 0) b

-- how a run stands, as a number
abbrev pub standing_byte : Standing → ℕ
standing_byte running = 0
standing_byte (over (finished plans made)) = 1
standing_byte (over (spent plans made)) = 2
standing_byte (over (full plans made)) = 3

-- a slot's bytes after a turn: how the run stands, its figures, its last node and its counts, and the list's rows
unfoldable pub figure_bytes : Job → List ℕ
figure_bytes h = (standing_byte h.standing ∷ four_bytes h.progress.made) ++ two_bytes (length h.progress.rows) ++ (length h.progress.last ∷ [])

unfoldable pub state_bytes : Job → List ℕ
state_bytes h = figure_bytes h ++ h.progress.last ++ replicate (12 - length h.progress.last) 0

unfoldable pub count_bytes : List ℕ → List ℕ
count_bytes counts = flat (map four_bytes counts)

unfoldable pub run_bytes : Job → List ℕ
run_bytes h = state_bytes h ++ count_bytes h.progress.counts

unfoldable pub with_run : List ℕ → ℕ → Job → List ℕ
with_run b p h = placed (placed b (p + STANDING) (run_bytes h)) (p + LIST) (flat h.progress.rows)

abbrev pub turn_bytes : Found → List ℕ → List ℕ
turn_bytes none_found b = b
turn_bytes (slot k) b = set (with_run b (slot_place k) (job_turned (job_at b (slot_place k)))) NEXT ((k + 1) % 8)

-- rounds: of each slot to which a turn is due, going round; then where to look
unfoldable pub round_bytes : ℕ → List ℕ → List ℕ → List ℕ
round_bytes r [] b = b
round_bytes r (k ∷ ks) b = round_bytes r ks (choose (eqb (due_at r (slot_of b k)) 0) b (with_run b (slot_place k) (given r (job_at b (slot_place k)))))

unfoldable pub rounds_bytes : List ℕ → ℕ → List ℕ
rounds_bytes b r = set (round_bytes r (round_from (at b NEXT)) b) NEXT (rounds_queue (queue_of b) r).next

abbrev pub call_bytes : List ℕ → QueueCall → List ℕ
call_bytes b (submit sheet limit) = submit_bytes (lowest_free (queue_of b)) (verdict_of sheet) b (slot_bytes sheet limit)
call_bytes b turn = turn_bytes (to_serve (queue_of b)) b
call_bytes b (release k room) = release_bytes (slot_at (queue_of b) k) b k room

-- ---- a call on lent bytes of any length: asked first, refusal 255 where they have not the queue's size
unfoldable pub reply_on : List ℕ → QueueCall → QueueReply
reply_on b x = choose (eqb (length b) size) (queue_reply (queue_of b) x) (refusal 255 0)

-- the status: the reply, and the twelve counts beside it
unfoldable pub status_on : List ℕ → ℕ → QueueReply
status_on b k = choose (eqb (length b) size) (status_reply (queue_of b) k) (refusal 255 0)

unfoldable pub counts_on : List ℕ → ℕ → List ℕ
counts_on b k = choose (eqb (length b) size) (status_counts (queue_of b) k) no_counts

unfoldable pub bytes_after : List ℕ → QueueCall → List ℕ
bytes_after b x = choose (eqb (length b) size) (call_bytes b x) b

-- rounds, likewise
unfoldable pub rounds_on : List ℕ → ℕ → RoundsReply
rounds_on b r = choose (eqb (length b) size) (rounds_reply (queue_of b) r) (refusal 255 0)

unfoldable pub rounds_after : List ℕ → ℕ → List ℕ
rounds_after b r = choose (eqb (length b) size) (rounds_bytes b r) b
