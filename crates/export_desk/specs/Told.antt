-- planner_desk_sit, planner_desk_turn, planner_desk_rounds, planner_desk_look and planner_desk_leave (paper 02, #113): what a call on the bytes b
-- returns, and the bytes of every lent buffer afterwards. Where the answer has another length than is asked nothing is changed.
use Rattle.std.specs.Prelude.{◌≡◌, List, ◌++◌, ℕ, ◌+◌, ◌*◌, eqb, length}
use Rattle.model.specs.{Lists.choose, Bytes.four_bytes, Run.finished, Run.spent, Run.full}
use Rattle.wire.specs.Wire.{wrong_length, three_numbers}
use Rattle.desk.specs.Queue.{Standing, running, over, QueueCall, submit, turn, release, QueueReply, Reply, refusal, answered, queued, idle, served, released}
use Rattle.desk.specs.Inner.Layout.{reply_on, status_on, counts_on, bytes_after, rounds_on, rounds_after}
use Rattle.desk.specs.{Rounds.RoundsReply, Meaning.room_after}
use Rattle.export_counts.specs.Tallied.{numbers_of}

-- four numbers of four bytes
unfoldable pub four_numbers : ℕ → ℕ → ℕ → ℕ → List ℕ
four_numbers kind a b c = three_numbers kind a b ++ four_bytes c

-- 0, or the number and the item of the refusal
abbrev pub reply_code : {A : Type 0} → Reply A → ℕ
reply_code (refusal number item) = number * 256 + item
reply_code (answered x) = 0

-- the kind of a slot: 1 finished, 2 spent, 3 full, as a run's; 4 running
abbrev pub kind_of : Standing → ℕ
kind_of running = 4
kind_of (over (finished plans made)) = 1
kind_of (over (spent plans made)) = 2
kind_of (over (full plans made)) = 3

-- of a new job 1, its slot, 0; of a job released 1, the bytes written, 0; of a slot its kind, its number, its plans and its nodes; four zeros where no run
-- waits. After a refusal the answer is as it came
abbrev pub reply_answer : QueueReply → List ℕ → List ℕ
reply_answer (refusal number item) answer = answer
reply_answer (answered (queued k)) answer = three_numbers 1 k 0
reply_answer (answered idle) answer = four_numbers 0 0 0 0
reply_answer (answered (served k s plans made)) answer = four_numbers (kind_of s) k plans made
reply_answer (answered (released count room)) answer = three_numbers 1 count 0

-- ---- submitting, turns and releasing
abbrev pub answer_length : QueueCall → ℕ
answer_length (submit sheet limit) = 12
answer_length turn = 16
answer_length (release k room) = 12

unfoldable pub queue_code : List ℕ → QueueCall → List ℕ → ℕ
queue_code b x answer = choose (eqb (length answer) (answer_length x)) (reply_code (reply_on b x)) wrong_length

unfoldable pub queue_bytes : List ℕ → QueueCall → List ℕ → List ℕ
queue_bytes b x answer = choose (eqb (length answer) (answer_length x)) (bytes_after b x) b

unfoldable pub queue_answer : List ℕ → QueueCall → List ℕ → List ℕ
queue_answer b x answer = choose (eqb (length answer) (answer_length x)) (reply_answer (reply_on b x) answer) answer

-- the room of a job that is released
unfoldable pub release_room : List ℕ → ℕ → List ℕ → List ℕ → List ℕ
release_room b k room answer = choose (eqb (length answer) 12) (room_after (reply_on b (release k room)) room) room

-- ---- the status: the four numbers of a slot, then its nodes by variable, twelve numbers
abbrev pub status_bytes : QueueReply → List ℕ → List ℕ → List ℕ
status_bytes (refusal number item) counts answer = answer
status_bytes (answered (queued k)) counts answer = answer
status_bytes (answered idle) counts answer = answer
status_bytes (answered (served k s plans made)) counts answer = four_numbers (kind_of s) k plans made ++ numbers_of counts
status_bytes (answered (released count room)) counts answer = answer

unfoldable pub status_code : List ℕ → ℕ → List ℕ → ℕ
status_code b k answer = choose (eqb (length answer) 64) (reply_code (status_on b k)) wrong_length

unfoldable pub status_answer : List ℕ → ℕ → List ℕ → List ℕ
status_answer b k answer = choose (eqb (length answer) 64) (status_bytes (status_on b k) (counts_on b k) answer) answer

-- ---- rounds: 1, the slots whose run ended, those whose run goes on
abbrev pub rounds_reply_answer : RoundsReply → List ℕ → List ℕ
rounds_reply_answer (refusal number item) answer = answer
rounds_reply_answer (answered (ended, going)) answer = three_numbers 1 ended going

unfoldable pub rounds_code : List ℕ → ℕ → List ℕ → ℕ
rounds_code b r answer = choose (eqb (length answer) 12) (reply_code (rounds_on b r)) wrong_length

unfoldable pub rounds_queue : List ℕ → ℕ → List ℕ → List ℕ
rounds_queue b r answer = choose (eqb (length answer) 12) (rounds_after b r) b

unfoldable pub rounds_answer : List ℕ → ℕ → List ℕ → List ℕ
rounds_answer b r answer = choose (eqb (length answer) 12) (rounds_reply_answer (rounds_on b r) answer) answer

-- ---- what callers hold: the contracts. b and answer are the buffers before the call, c and d after it, n came back
-- submitting, and turns
pub record CallQueue (b : List ℕ) (x : QueueCall) (answer : List ℕ) (n : ℕ) (c d : List ℕ) : Type 0 where
  pub code : n ≡ queue_code b x answer
  pub bytes : c ≡ queue_bytes b x answer
  pub told : d ≡ queue_answer b x answer

pub record CallRelease (b : List ℕ) (k : ℕ) (room answer : List ℕ) (n : ℕ) (c out d : List ℕ) : Type 0 where
  pub code : n ≡ queue_code b (release k room) answer
  pub bytes : c ≡ queue_bytes b (release k room) answer
  pub written : out ≡ release_room b k room answer
  pub told : d ≡ queue_answer b (release k room) answer

pub record CallStatus (b : List ℕ) (k : ℕ) (answer : List ℕ) (n : ℕ) (d : List ℕ) : Type 0 where
  pub code : n ≡ status_code b k answer
  pub told : d ≡ status_answer b k answer

pub record CallRounds (b : List ℕ) (r : ℕ) (answer : List ℕ) (n : ℕ) (c d : List ℕ) : Type 0 where
  pub code : n ≡ rounds_code b r answer
  pub bytes : c ≡ rounds_queue b r answer
  pub told : d ≡ rounds_answer b r answer
