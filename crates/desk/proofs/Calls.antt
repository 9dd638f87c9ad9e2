-- Each call on bytes, and calls one after another, as the queue has them (specs/Claims). Assumes nothing.
use Rattle.model.specs.Kit.{◌≡◌, refl, sym, ap, ap₂, ◌∙◌, subst, List, [], ◌∷◌, Memᴰ, Memᴰ-head, Memᴰ-tail, Memᴰ-of_map, ℕ, ◌+◌, ◌%◌, ◌<◌, arith, T, set, length-set}
use Rattle.model.specs.Lists.{at, below}
use Rattle.model.proofs.Lists.{at_set, at_set_other}
use Rattle.desk.specs.Queue.{Job, job_turned, Slot, waits, slot_turned, Queue, slot_at, Found, none_found, slot, round_from, to_serve, QueueCall, submit, turn, release, QueueReply, turn_queue}
use Rattle.desk.specs.Queue.{queue_after, queue_end, queue_replies}
use Rattle.desk.specs.Inner.Layout.{slot_place, job_at, slot_of, queue_of, with_run, turn_bytes, call_bytes, bytes_after}
use Rattle.desk.specs.{Inner.Places.NEXT, Claims.QueueBytes, Claims.ByteCall, Claims.EachCall, Claims.OtherSize, Inner.Claims.bytes_end}
use Rattle.desk.specs.Inner.Claims.{replies_on, AllCalls}
use Rattle.desk.proofs.Slots.{slot_in, free_at, taken_at, reply_whole, reply_wrong, bytes_whole, bytes_wrong}
use Rattle.desk.proofs.{Queue.first_in, Bytes.small_set, Meaning.slot_same, Meaning.slots_set, Refines.queue_is, Refines.submit_call, Refines.release_call, Turning.Fits, Turning.at_fits}
use Rattle.desk.proofs.{Turning.turned_fits, Turned.run_whole, Turned.run_slot, Turned.run_others, Turned.run_bytes_lem}

-- ---- where to look
module _ (b : List ℕ) (v : ℕ) (d : QueueBytes b) where
  pub next_slot : (j : ℕ) → j < 8 → slot_of (set b NEXT v) j ≡ slot_of b j
  next_slot j l = slot_same b (set b NEXT v) j (length-set b NEXT v) l d.0 (λ i m. at_set_other b NEXT v (slot_place j + i) (λ e. omega arith))

  pub next_read : at (set b NEXT v) NEXT ≡ v
  next_read = at_set b NEXT v (let w = d.0 in omega arith)

-- ---- a turn
held : (b : List ℕ) (k : ℕ) → T (waits (slot_of b k)) → at b (slot_place k) ≡ 0 → ⊥
held b k t e = subst (λ (s : Slot). T (waits s)) (free_at b k e) t

module _ (b : List ℕ) (d : QueueBytes b) where
  turned_by : (f : Found) → to_serve (queue_of b) ≡ f → (queue_of (turn_bytes f b) ≡ turn_queue f (queue_of b)) × QueueBytes (turn_bytes f b)
  turned_by none_found e = (refl, d)
  turned_by (slot k) e = (
    queue_is (slots_set b c k (slot_turned (slot_at (queue_of b) k)) (next_slot run v run_queue k l ∙ run_slot b k d l g fits n ∙ sym (ap slot_turned (slot_in b k l ∙ taken_at b k n)))
        (λ j m o. next_slot run v run_queue j m ∙ run_others b k d l g fits j m o)) (next_read run v run_queue),
    (length-set run NEXT v ∙ run_queue.0, small_set run NEXT v (omega arith) run_queue.1),
  )
    where
      found : T (waits (slot_at (queue_of b) k)) × Memᴰ k (round_from (queue_of b).next)
      found = first_in (λ n. waits (slot_at (queue_of b) n)) (round_from (queue_of b).next) k e

      l : k < 8
      l = let r = Memᴰ-of_map (λ i. ((queue_of b).next + i) % 8) (below 8) found.1 in let z : ((queue_of b).next + r.0) % 8 ≡ k = r.2 in omega arith

      n : at b (slot_place k) ≡ 0 → ⊥
      n = held b k (subst (λ (s : Slot). T (waits s)) (slot_in b k l) found.0)

      g : Job
      g = job_turned (job_at b (slot_place k))

      fits : Fits b (slot_place k) g
      fits = turned_fits b (slot_place k) (job_at b (slot_place k)) (at_fits b (slot_place k) (let w = d.0 in let z = l in omega arith) d.1)

      run : List ℕ
      run = with_run b (slot_place k) g

      run_queue : QueueBytes run
      run_queue = (run_whole b k d l g fits ∙ d.0, run_bytes_lem b k d l g fits)

      v : ℕ
      v = (k + 1) % 8

      c : List ℕ
      c = set run NEXT v

  turn_call : (queue_of (call_bytes b turn) ≡ queue_after (queue_of b) turn) × QueueBytes (call_bytes b turn)
  turn_call = turned_by (to_serve (queue_of b)) refl

-- ---- each call, and all
call_on : (b : List ℕ) (x : QueueCall) → QueueBytes b → ByteCall x → (queue_of (call_bytes b x) ≡ queue_after (queue_of b) x) × QueueBytes (call_bytes b x)
call_on b (submit sheet limit) d y = submit_call b sheet limit d y.0 y.1
call_on b turn d y = turn_call b d
call_on b (release k room) d y = release_call b k room d

pub each_call : EachCall
each_call b x d y =
    let e = bytes_whole b x d.0 in
    let r = call_on b x d y in
    (reply_whole b x d.0, ap queue_of e ∙ r.0, subst QueueBytes (sym e) r.1)

pub other_size : OtherSize
other_size b x n = (reply_wrong b x n, bytes_wrong b x n)

pub all_calls : AllCalls
unfolding bytes_end replies_on queue_end queue_replies
all_calls b [] d y = (refl, refl, d)
all_calls b (x ∷ xs) d y =
    let r = each_call b x d (y x (Memᴰ-head refl)) in
    let s = all_calls (bytes_after b x) xs r.2 (λ z m. y z (Memᴰ-tail m)) in (
      s.0 ∙ ap (λ (e : Queue). queue_end e xs) r.1,
      ap₂ (λ (z : QueueReply) (zs : List QueueReply). z ∷ zs) r.0 (s.1 ∙ ap (λ (e : Queue). queue_replies e xs) r.1),
      s.2,
    )
