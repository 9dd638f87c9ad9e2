-- Rounds on bytes are rounds on the queue that they mean (specs/RoundsClaims). Assumes nothing.
use Rattle.model.specs.Kit.{◌≡◌, refl, sym, ap, ◌∙◌, subst, Bool, true, false, List, [], ◌∷◌, map, Memᴰ, Memᴰ-head, Memᴰ-tail, Memᴰ-not_nil, ℕ, zero, suc, ◌+◌, ◌%◌, ◌<◌, arith}
use Rattle.model.specs.Kit.{eqb, ltb, leb, length, set, get_or, length-set, length-map, eqb-true, eqb-false, eq-eqb, ne_eqb}
use Rattle.model.specs.Lists.{at, both, choose, below}
use lib.ListN.{get_or-map}
use lib.Seq.{ext_get_or}
use Rattle.desk.specs.Queue.{Job, job_turned, Slot, free, taken, Queue, slot_at, round_from, refusal, size}
use Rattle.desk.specs.Rounds.{turned, due, due_at, given, rounds_queue, rounds_reply}
use Rattle.desk.specs.Inner.Layout.{slot_place, job_at, slot_of, queue_of, with_run, round_bytes, rounds_bytes, rounds_on, rounds_after}
use Rattle.desk.specs.{Inner.Rounds.slot_given, Inner.Rounds.behind_last, Inner.Rounds.rounds_at_once, Inner.Places.NEXT, Claims.QueueBytes, RoundsClaims.RoundsCall, RoundsClaims.RoundsOtherSize}
use Rattle.desk.proofs.Rounds.{Once, pos_e, pos_once, round_is, round_all, at_once}
use Rattle.desk.proofs.{Bytes.small_set, Slots.row_length, Slots.slot_in, Slots.free_at, Slots.taken_at, Refines.queue_is, Turning.Fits, Turning.at_fits, Turning.turned_fits, Turned.run_whole}
use Rattle.desk.proofs.{Turned.run_slot, Turned.run_others, Turned.run_next, Turned.run_bytes_lem, Calls.next_slot, Calls.next_read}

pub turns_fit : (b : List ℕ) (p m : ℕ) (h : Job) → Fits b p h → Fits b p (turned m h)
turns_fit b p zero h f = f
turns_fit b p (suc m) h f = turns_fit b p m (job_turned h) (turned_fits b p h f)

-- ---- one slot
none_given : (r : ℕ) (s : Slot) → due_at r s ≡ 0 → slot_given r s ≡ s
none_given r free e = refl
none_given r (taken h) e = ap (λ (m : ℕ). taken (turned m h)) e

module _ (r : ℕ) (b : List ℕ) (d : QueueBytes b) (k : ℕ) (l : k < 8) where
  abbrev p : ℕ
  p = slot_place k

  abbrev pub after : List ℕ
  after = choose (eqb (due_at r (slot_of b k)) 0) b (with_run b p (given r (job_at b p)))

  pub record Served (c : List ℕ) : Type 0 where
    pub bytes : QueueBytes c
    pub own : slot_of c k ≡ slot_given r (slot_of b k)
    pub others : (j : ℕ) → j < 8 → (j ≡ k → ⊥) → slot_of c j ≡ slot_of b j
    pub next : at c NEXT ≡ at b NEXT

  pub serve : Served after
  serve = go (eqb (due_at r (slot_of b k)) 0) refl
    where
      go : (t : Bool) → eqb (due_at r (slot_of b k)) 0 ≡ t → Served (choose t b (with_run b p (given r (job_at b p))))
      go true e = record { bytes = d; own = sym (none_given r (slot_of b k) (eqb-true (due_at r (slot_of b k)) 0 e)); others = λ j m n. refl; next = refl }
      go false e =
          let n : at b p ≡ 0 → ⊥ = λ z. eqb-false (due_at r (slot_of b k)) 0 e (ap (due_at r) (free_at b k z)) in
          let g = given r (job_at b p) in
          let f = turns_fit b p (due r (job_at b p)) (job_at b p) (at_fits b p (let w = d.0 in omega arith) d.1) in
          record {
            bytes = (run_whole b k d l g f ∙ d.0, run_bytes_lem b k d l g f);
            own = run_slot b k d l g f n ∙ sym (ap (slot_given r) (taken_at b k n));
            others = run_others b k d l g f;
            next = run_next b k d l g f;
          }

-- ---- some slots, each once
pub record AllServed (r : ℕ) (b : List ℕ) (ks : List ℕ) (c : List ℕ) : Type 0 where
  pub bytes : QueueBytes c
  pub given_to : (j : ℕ) → Memᴰ j ks → slot_of c j ≡ slot_given r (slot_of b j)
  pub others : (j : ℕ) → j < 8 → ((k : ℕ) → Memᴰ k ks → (j ≡ k → ⊥)) → slot_of c j ≡ slot_of b j
  pub next : at c NEXT ≡ at b NEXT

serve_all : (r : ℕ) (ks : List ℕ) (b : List ℕ) → QueueBytes b → Once ks → ((k : ℕ) → Memᴰ k ks → k < 8) → AllServed r b ks (round_bytes r ks b)
unfolding round_bytes
serve_all r [] b d o l = record { bytes = d; given_to = λ j m. absurd (Memᴰ-not_nil m); others = λ j m n. refl; next = refl }
serve_all r (k ∷ ks) b d o l =
    let h = l k (Memᴰ-head refl) in
    let s = serve r b d k h in
    let a = serve_all r ks (after r b d k h) s.bytes o.1 (λ j m. l j (Memᴰ-tail m)) in
    record {
      bytes = a.bytes;
      given_to = each h s a;
      others = λ j m n. a.others j m (λ i q. n i (Memᴰ-tail q)) ∙ s.others j m (n k (Memᴰ-head refl));
      next = a.next ∙ s.next;
    }
  where
    each : (h : k < 8) → Served r b d k h (after r b d k h) → AllServed r (after r b d k h) ks (round_bytes r ks (after r b d k h)) →
        (j : ℕ) → Memᴰ j (k ∷ ks) → slot_of (round_bytes r ks (after r b d k h)) j ≡ slot_given r (slot_of b j)
    each h s a j (Memᴰ-head e) =
        let c = round_bytes r ks (after r b d k h) in
        ap (slot_of c) e ∙ a.others k h (λ i q z. o.0 i q (sym z)) ∙ s.own ∙ ap (λ (i : ℕ). slot_given r (slot_of b i)) (sym e)
    each h s a j (Memᴰ-tail m) = a.given_to j m ∙ ap (slot_given r) (s.others j (l j (Memᴰ-tail m)) (o.0 j m))

-- where to look is a byte
pub behind_small : (turns : ℕ → ℕ) (ks : List ℕ) (best next : ℕ) → next < 256 → behind_last turns ks best next < 256
unfolding behind_last
behind_small turns [] best next h = h
behind_small turns (k ∷ ks) best next h = go (both (ltb 0 (turns k)) (leb best (turns k))) (behind_small turns ks (turns k) ((k + 1) % 8) (omega arith)) (behind_small turns ks best next h)
  where
    go : (t : Bool) → behind_last turns ks (turns k) ((k + 1) % 8) < 256 → behind_last turns ks best next < 256 → choose t (behind_last turns ks (turns k) ((k + 1) % 8))
        (behind_last turns ks best next) < 256
    go true x y = x
    go false x y = y

pub rounds_bytes_lem : (b : List ℕ) (r : ℕ) → QueueBytes b → (queue_of (rounds_bytes b r) ≡ rounds_queue (queue_of b) r) × QueueBytes (rounds_bytes b r)
unfolding rounds_bytes below
rounds_bytes_lem b r d = (
  queue_is (ext_get_or free (queue_of c).slots (map (slot_given r) (queue_of b).slots) lengths each ∙ ap (λ (q : Queue). q.slots) same) (next_read run v run_queue),
  (length-set run NEXT v ∙ run_queue.0, small_set run NEXT v v_small run_queue.1),
)
  where
    ks : List ℕ
    ks = round_from (at b NEXT)

    run : List ℕ
    run = round_bytes r ks b

    same : rounds_at_once (queue_of b) r ≡ rounds_queue (queue_of b) r
    same = at_once (queue_of b) r (row_length (slot_of b) 8 0)

    v : ℕ
    v = (rounds_queue (queue_of b) r).next

    v_small : v < 256
    v_small =
        subst (λ (n : ℕ). n < 256) (ap (λ (q : Queue). q.next) same)
        (behind_small (λ k. due_at r (slot_at (queue_of b) k)) (round_from (queue_of b).next) 0 (queue_of b).next (d.1 NEXT))

    c : List ℕ
    c = set run NEXT v

    all_slots : AllServed r b ks run
    all_slots =
        let e = sym (round_is (at b NEXT)) in
        serve_all r ks b d (subst Once e (pos_once 8 (at b NEXT) (omega arith)))
        (λ k m. let q = pos_e 8 (at b NEXT) k (subst (Memᴰ k) (sym e) m) in let z : k ≡ (at b NEXT + q.0) % 8 = q.2 in omega arith)

    run_queue : QueueBytes run
    run_queue = all_slots.bytes

    lengths : length (queue_of c).slots ≡ length (map (slot_given r) (queue_of b).slots)
    lengths = row_length (slot_of c) 8 0 ∙ sym (length-map (queue_of b).slots (slot_given r) ∙ row_length (slot_of b) 8 0)

    each : (j : ℕ) → j < length (queue_of c).slots → slot_at (queue_of c) j ≡ get_or (map (slot_given r) (queue_of b).slots) j free
    each j h =
        let m = row_length (slot_of c) 8 0 in
        let l : j < 8 = omega arith in
        slot_in c j l ∙ next_slot run v run_queue j l ∙ all_slots.given_to j (subst (Memᴰ j) (sym (round_is (at b NEXT))) (round_all (at b NEXT) j l))
        ∙ ap (slot_given r) (sym (slot_in b j l)) ∙ sym (get_or-map (slot_given r) (queue_of b).slots j free)

-- ---- the claims
pub rounds_call : RoundsCall
unfolding rounds_on rounds_after
rounds_call b r d =
    let w = eq-eqb (length b) size d.0 in
    let e : rounds_after b r ≡ rounds_bytes b r = ap (λ (t : Bool). choose t (rounds_bytes b r) b) w in
    let s = rounds_bytes_lem b r d in
    (ap (λ (t : Bool). choose t (rounds_reply (queue_of b) r) (refusal 255 0)) w, ap queue_of e ∙ s.0, subst QueueBytes (sym e) s.1)

pub rounds_other_size : RoundsOtherSize
unfolding rounds_on rounds_after
rounds_other_size b r n =
    let w = ne_eqb (length b) size n in
    (ap (λ (t : Bool). choose t (rounds_reply (queue_of b) r) (refusal 255 0)) w, ap (λ (t : Bool). choose t (rounds_bytes b r) b) w)
