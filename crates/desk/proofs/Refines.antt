-- Each call on bytes is the call on the queue that they mean (specs/Claims). Assumes nothing.
use Rattle.model.specs.Kit.{◌≡◌, refl, sym, ap, ap₂, ◌∙◌, subst, Bool, true, false, List, ◌∷◌, ◌++◌, ℕ, ◌+◌, ◌^◌, ◌<◌, arith, T, ltb, length, set, get_or, replicate, length-set, ltb-true, ltb-false}
use Rattle.model.specs.{Lists.choose, Lists.below, Verdict.Verdict, Verdict.accepted, Verdict.refused, Sheet.verdict_of, Bytes.two_bytes, Bytes.four_bytes, Written.placed}
use lib.Seq.{set-get_or, ext_get_or}
use Rattle.model.proofs.Lists.{below_e, at_set, at_set_other}
use Rattle.desk.specs.Queue.{new_job, Job, Slot, free, taken, is_free, Queue, slot_at, Found, none_found, slot, lowest_free, submit, release, submit_queue, fits, release_slot, queue_after}
use Rattle.desk.specs.{Inner.Places.NEXT, Claims.QueueBytes, Claims.ZerosEmpty}
use Rattle.desk.specs.Inner.Layout.{slot_place, slot_of, queue_of, head_bytes, slot_bytes, submit_bytes, release_bytes, call_bytes}
use Rattle.desk.proofs.Bytes.{Small, small_cons, small_append, small_replicate, small_placed, small_set, small_four, small_two}
use Rattle.desk.proofs.Meaning.{slot_same, slots_set, submitted_length, submitted_slot, submitted_others, submitted_next}
use Rattle.desk.proofs.{Queue.first_in, Queue.no_slots, Sheets.answered_length, Slots.row_length, Slots.slot_in, Slots.slot_out, Slots.free_at}

-- a queue by its slots and where to look
pub queue_is : {l m : List Slot} {i j : ℕ} → l ≡ m → i ≡ j → ◌≡◌ {A = Queue} (record { slots = l; next = i }) (record { slots = m; next = j })
queue_is e f = ap₂ (λ (x : List Slot) (y : ℕ). let d : Queue = record { slots = x; next = y } in d) e f

-- ---- zeros
pub zeros_empty : ZerosEmpty
unfolding below
zeros_empty b zeros = queue_is (ext_get_or free (queue_of b).slots (replicate 8 free) (row_length (slot_of b) 8 0) each) (zeros NEXT)
  where
    each : (k : ℕ) → k < length (queue_of b).slots → slot_at (queue_of b) k ≡ get_or (replicate 8 free) k free
    each k h = let l = row_length (slot_of b) 8 0 in slot_in b k (omega arith) ∙ free_at b k (zeros (slot_place k)) ∙ sym (no_slots 8 k)

-- ---- submitting
module _ (b sheet : List ℕ) (limit : ℕ) (d : QueueBytes b) (small : Small sheet) (narrow : limit < 2 ^ 32) where
  small_slot : accepted ≡ verdict_of sheet → Small (slot_bytes sheet limit)
  unfolding slot_bytes head_bytes
  small_slot ok =
      let l = answered_length sheet ok in
      small_append ((1 ∷ two_bytes (length sheet)) ++ four_bytes limit ++ replicate 68 0) sheet
      (small_append (1 ∷ two_bytes (length sheet)) (four_bytes limit ++ replicate 68 0) (small_cons 1 (two_bytes (length sheet)) (omega arith) (small_two (length sheet) (omega arith)))
      (small_append (four_bytes limit) (replicate 68 0) (small_four limit narrow) (small_replicate 68)))
      small

  abbrev SubmitDone : Found → Verdict → Type 0
  SubmitDone f v = (queue_of (submit_bytes f v b (slot_bytes sheet limit)) ≡ submit_queue f v (queue_of b) (new_job sheet limit)) × QueueBytes (submit_bytes f v b (slot_bytes sheet limit))

  submitted_by : (f : Found) (v : Verdict) → lowest_free (queue_of b) ≡ f → verdict_of sheet ≡ v → SubmitDone f v
  submitted_by none_found v e g = (refl, d)
  submitted_by (slot k) (refused number item) e g = (refl, d)
  submitted_by (slot k) accepted e g =
      let h = below_e 8 k (first_in (λ n. is_free (slot_at (queue_of b) n)) (below 8) k e).1 in
      let ok = sym g in
      let w = d.0 in (
        queue_is (slots_set b (placed b (slot_place k) (slot_bytes sheet limit)) k (taken (new_job sheet limit)) (submitted_slot b sheet limit k w h ok narrow)
            (submitted_others b sheet limit k w h ok narrow))
            (submitted_next b sheet limit k w h ok narrow),
        (submitted_length b sheet limit k w h ok narrow ∙ w, small_placed b (slot_place k) (slot_bytes sheet limit) d.1 (small_slot ok)),
      )

  pub submit_call : (queue_of (call_bytes b (submit sheet limit)) ≡ queue_after (queue_of b) (submit sheet limit)) × QueueBytes (call_bytes b (submit sheet limit))
  submit_call = submitted_by (lowest_free (queue_of b)) (verdict_of sheet) refl refl

-- ---- releasing
module _ (b : List ℕ) (k : ℕ) (d : QueueBytes b) (h : k < 8) where
  abbrev c : List ℕ
  c = set b (slot_place k) 0

  c_length : length c ≡ length b
  c_length = length-set b (slot_place k) 0

  freed : slot_of c k ≡ free
  freed = free_at c k (at_set b (slot_place k) 0 (let w = d.0 in omega arith))

  others : (j : ℕ) → j < 8 → (j ≡ k → ⊥) → slot_of c j ≡ slot_of b j
  others j l n = slot_same b c j c_length l d.0 (λ i m. at_set_other b (slot_place k) 0 (slot_place j + i) (λ e. omega arith))

  pub released_queue : queue_of c ≡ record { slots = set (queue_of b).slots k free; next = (queue_of b).next }
  released_queue = queue_is (slots_set b c k free freed others) (at_set_other b (slot_place k) 0 NEXT (λ e. omega arith))

  pub released_bytes : QueueBytes c
  released_bytes = (c_length ∙ d.0, small_set b (slot_place k) 0 (omega arith) d.1)

module _ (b : List ℕ) (k : ℕ) (room : List ℕ) (d : QueueBytes b) where
  abbrev ReleaseDone : Slot → Type 0
  ReleaseDone s = (queue_of (release_bytes s b k room) ≡ record { slots = set (queue_of b).slots k (release_slot s room); next = (queue_of b).next }) × QueueBytes (release_bytes s b k room)

  -- a slot put back where it was
  same_queue : (s : Slot) → slot_at (queue_of b) k ≡ s → queue_of b ≡ record { slots = set (queue_of b).slots k s; next = (queue_of b).next }
  same_queue s e = queue_is (sym (set-get_or (queue_of b).slots k free) ∙ ap (set (queue_of b).slots k) e) refl

  within : (h : Job) → slot_at (queue_of b) k ≡ taken h → k < 8
  within h e = go (ltb k 8) refl
    where
      go : (t : Bool) → ltb k 8 ≡ t → k < 8
      go true g = ltb-true k 8 g
      go false g = absurd (subst (λ (s : Slot). T (is_free s)) (sym (slot_out b k (ltb-false k 8 g)) ∙ e) tt)

  release_done : (s : Slot) → slot_at (queue_of b) k ≡ s → ReleaseDone s
  release_done free e = (same_queue free e, d)
  release_done (taken h) e = go (fits h room)
    where
      go : (t : Bool) → (queue_of (choose t (set b (slot_place k) 0) b) ≡ record { slots = set (queue_of b).slots k (elim t [ true ↦ free | false ↦ taken h ]); next = (queue_of b).next }) × QueueBytes
          (choose t (set b (slot_place k) 0) b)
      go true = let l = within h e in (released_queue b k d l, released_bytes b k d l)
      go false = (same_queue (taken h) e, d)

  pub release_call : (queue_of (call_bytes b (release k room)) ≡ queue_after (queue_of b) (release k room)) × QueueBytes (call_bytes b (release k room))
  release_call = release_done (slot_at (queue_of b) k) refl
