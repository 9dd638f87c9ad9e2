-- What the queue's bytes mean (specs/Inner/Layout), slot by slot, and what the answers come to. Assumes nothing.
use Rattle.model.specs.Kit.{◌≡◌, refl, sym, ap, ap₂, ◌∙◌, subst, Bool, true, false, List, ◌++◌, map, ℕ, zero, suc, ◌+◌, ◌*◌, ◌^◌, ◌≤◌, ◌<◌, suc-mul, arith, eqb, length, take, drop, set, get_or}
use Rattle.model.specs.Kit.{length-drop, length-take-le, le-leb, lt-leb, eq-eqb, ne_eqb, eqb-true, eqb-false}
use Rattle.std.proofs.Common.{Option, Some, None, MatchOption, IfSome}
use Rattle.model.specs.Lists.{at, choose, flat, below, up_from}
use Rattle.model.specs.{Verdict.Verdict, Verdict.accepted, Verdict.refused, Sheet.«word», Sheet.verdict_of, Written.placed, Run.listed_plans, Run.written}
use native.Mathlib.Nat.{zero-add, zero-mul}
use lib.ListN.{get_or-eq_default}
use lib.Seq.{take-add, take-take}
use Rattle.model.proofs.{Lists.below_e, Room.length_listed}
use Rattle.desk.specs.Queue.{Job, Slot, free, taken, is_free, slot_at, Found, none_found, slot, first_of, lowest_free, QueueCall, submit, release, QueueReply, refusal, answered, queued, served}
use Rattle.desk.specs.Queue.{released, submit_reply, fits, release_for, release_reply, queue_reply, job_in, size, standing_by}
use Rattle.desk.specs.Status.{status_for, status_reply, no_counts, status_counts}
use Rattle.desk.specs.{Inner.Places.LIST, Inner.Places.LIST_BYTES, Meaning.room_after, Inner.Finding.found, StatusCalls.StatusCall, StatusCalls.StatusOtherSize}
use Rattle.desk.specs.Inner.Layout.{slot_place, long, plans_at, width_at, nodes_at, standing_at, rows_at, job_at, slot_of, queue_of, slot_bytes, submit_bytes, release_bytes, call_bytes, reply_on}
use Rattle.desk.specs.Inner.Layout.{status_on}
use Rattle.desk.specs.Inner.Layout.{bytes_after, counts_at, counts_on}
use Rattle.desk.proofs.Queue.{none_first}

-- a word of bytes
pub word_small : (b : List ℕ) → ((i : ℕ) → at b i < 256) → (o : ℕ) → «word» b o < 65536
unfolding «word»
word_small b h o = let x = h o in let y = h (o + 1) in omega arith

pub long_small : (b : List ℕ) → ((i : ℕ) → at b i < 256) → (o : ℕ) → long b o < 2 ^ 32
unfolding long
long_small b h o = let x = word_small b h o in let y = word_small b h (o + 2) in omega arith

-- ---- the slots that bytes mean
row_at : {A : Type 0} (f : ℕ → A) (d : A) (n a k : ℕ) → k < n → get_or (map f (up_from a n)) k d ≡ f (a + k)
unfolding up_from
row_at f d zero a k h = absurd (omega arith)
row_at f d (suc n) a zero h = ap f (let e : a ≡ a + 0 = omega arith in e)
row_at f d (suc n) a (suc k) h = row_at f d n (suc a) k (omega arith) ∙ ap f (let e : suc a + k ≡ a + suc k = omega arith in e)

pub row_length : {A : Type 0} (f : ℕ → A) (n a : ℕ) → length (map f (up_from a n)) ≡ n
unfolding up_from
row_length f zero a = refl
row_length f (suc n) a = ap suc (row_length f n (suc a))

-- the first of some numbers f a, f (a + 1), .. that passes a test
pub first_at : (q : ℕ → Bool) (f : ℕ → ℕ) (n a i : ℕ) → a ≤ i → i < a + n → ((j : ℕ) → a ≤ j → j < i → q (f j) ≡ false) → q (f i) ≡ true → first_of q (map f (up_from a n)) ≡ slot (f i)
unfolding first_of up_from
first_at q f zero a i l h none e = absurd (omega arith)
first_at q f (suc n) a i l h none e = go (eqb a i) refl (first_at q f n (suc a) i)
  where
    rest : Found
    rest = first_of q (map f (up_from (suc a) n))

    go : (t : Bool) → eqb a i ≡ t → (suc a ≤ i → i < suc a + n → ((j : ℕ) → suc a ≤ j → j < i → q (f j) ≡ false) → q (f i) ≡ true → rest ≡ slot (f i)) → elim
        (q (f a)) [ true ↦ slot (f a) | false ↦ rest ] ≡ slot (f i)
    go true g ih =
        let z = eqb-true a i g in
        ap (λ (t : Bool). elim t [ true ↦ slot (f a) | false ↦ rest ]) (ap (λ (j : ℕ). q (f j)) z ∙ e) ∙ ap (λ (j : ℕ). slot (f j)) z
    go false g ih =
        let z = eqb-false a i g in
        ap (λ (t : Bool). elim t [ true ↦ slot (f a) | false ↦ rest ]) (none a (omega arith) (omega arith)) ∙ ih (omega arith) (omega arith) (λ j k m. none j (omega arith) m) e

module _ (b : List ℕ) where
  pub slot_in : (k : ℕ) → k < 8 → slot_at (queue_of b) k ≡ slot_of b k
  unfolding below
  slot_in k h = row_at (slot_of b) free 8 0 k h ∙ ap (slot_of b) (let e : 0 + k ≡ k = omega arith in e)

  pub slot_out : (k : ℕ) → 8 ≤ k → slot_at (queue_of b) k ≡ free
  unfolding below
  slot_out k h = get_or-eq_default (map (slot_of b) (up_from 0 8)) free (let e = row_length (slot_of b) 8 0 in omega arith)

  pub free_at : (k : ℕ) → at b (slot_place k) ≡ 0 → slot_of b k ≡ free
  unfolding slot_of
  free_at k e = ap (λ (t : Bool). choose t free (taken (job_at b (slot_place k)))) (eq-eqb (at b (slot_place k)) 0 e)

  pub taken_at : (k : ℕ) → (at b (slot_place k) ≡ 0 → ⊥) → slot_of b k ≡ taken (job_at b (slot_place k))
  unfolding slot_of
  taken_at k n = ap (λ (t : Bool). choose t free (taken (job_at b (slot_place k)))) (ne_eqb (at b (slot_place k)) 0 n)

  test : ℕ → Bool
  test k = is_free (slot_at (queue_of b) k)

  test_yes : (k : ℕ) → k < 8 → at b (slot_place k) ≡ 0 → test k ≡ true
  unfolding test
  test_yes k h e = ap is_free (slot_in k h ∙ free_at k e)

  test_no : (k : ℕ) → k < 8 → (at b (slot_place k) ≡ 0 → ⊥) → test k ≡ false
  unfolding test
  test_no k h n = ap is_free (slot_in k h ∙ taken_at k n)

  -- what a search through the slots answers
  pub lowest_found : (r : Option ℕ) → MatchOption r ((k : ℕ) → 0 ≤ k → k < 8 → at b (slot_place k) ≡ 0 → ⊥)
      (λ i. (0 ≤ i) × (i < 8) × (at b (slot_place i) ≡ 0) × ((k : ℕ) → 0 ≤ k → k < i → at b (slot_place k) ≡ 0 → ⊥)) →
      (found r ≡ lowest_free (queue_of b)) × IfSome r (λ k. k < 8)
  unfolding test below up_from
  lowest_found None f = (sym (none_first test (below 8) (λ j m. let l = below_e 8 j m in test_no j l (f j (omega arith) l))), tt)
  lowest_found (Some k) f =
      let h : k < 8 = f.1 in
      (sym (first_at test (λ i. i) 8 0 k (omega arith) (omega arith) (λ j i m. test_no j (omega arith) (f.3 j (omega arith) m)) (test_yes k h f.2)), h)

-- ---- the lent bytes have the queue's size, or not
module _ (b : List ℕ) (x : QueueCall) where
  pub reply_whole : length b ≡ size → reply_on b x ≡ queue_reply (queue_of b) x
  unfolding reply_on
  reply_whole e = ap (λ (t : Bool). choose t (queue_reply (queue_of b) x) (refusal 255 0)) (eq-eqb (length b) size e)

  pub reply_wrong : (length b ≡ size → ⊥) → reply_on b x ≡ refusal 255 0
  unfolding reply_on
  reply_wrong n = ap (λ (t : Bool). choose t (queue_reply (queue_of b) x) (refusal 255 0)) (ne_eqb (length b) size n)

  pub bytes_whole : length b ≡ size → bytes_after b x ≡ call_bytes b x
  unfolding bytes_after
  bytes_whole e = ap (λ (t : Bool). choose t (call_bytes b x) b) (eq-eqb (length b) size e)

  pub bytes_wrong : (length b ≡ size → ⊥) → bytes_after b x ≡ b
  unfolding bytes_after
  bytes_wrong n = ap (λ (t : Bool). choose t (call_bytes b x) b) (ne_eqb (length b) size n)

-- ---- submitting
module _ (b sheet : List ℕ) (limit : ℕ) where
  -- what is said of a reply and the bytes that were left
  abbrev pub Submits : QueueReply → List ℕ → Type 0
  Submits r c = (r ≡ reply_on b (submit sheet limit)) × (c ≡ bytes_after b (submit sheet limit))

  pub submit_255 : (length b ≡ size → ⊥) → Submits (refusal 255 0) b
  submit_255 n = (sym (reply_wrong b (submit sheet limit) n), sym (bytes_wrong b (submit sheet limit) n))

  module _ (whole : length b ≡ size) where
    by : (f : Found) (v : Verdict) → lowest_free (queue_of b) ≡ f → verdict_of sheet ≡ v → Submits (submit_reply f v) (submit_bytes f v b (slot_bytes sheet limit))
    by f v e g = (
      sym (reply_whole b (submit sheet limit) whole ∙ ap₂ submit_reply e g),
      sym (bytes_whole b (submit sheet limit) whole ∙ ap₂ (λ (x : Found) (y : Verdict). submit_bytes x y b (slot_bytes sheet limit)) e g),
    )

    pub submit_37 : none_found ≡ lowest_free (queue_of b) → Submits (refusal 37 0) b
    submit_37 e = by none_found (verdict_of sheet) (sym e) refl

    pub submit_refused : (k number item : ℕ) → slot k ≡ lowest_free (queue_of b) → refused number item ≡ verdict_of sheet → Submits (refusal number item) b
    submit_refused k number item e v = by (slot k) (refused number item) (sym e) (sym v)

    pub submit_yes : (k : ℕ) (c : List ℕ) → slot k ≡ lowest_free (queue_of b) → accepted ≡ verdict_of sheet → c ≡ placed b (slot_place k) (slot_bytes sheet limit) →
        Submits (answered (queued k)) c
    submit_yes k c e v q = let r = by (slot k) accepted (sym e) (sym v) in (r.0, q ∙ r.1)

-- ---- the status
module _ (b : List ℕ) (k : ℕ) where
  -- what is said of a reply and of the counts beside it
  abbrev pub Seen : QueueReply → List ℕ → Type 0
  Seen r counts = (r ≡ status_on b k) × (counts ≡ counts_on b k)

  pub status_255 : (length b ≡ size → ⊥) → Seen (refusal 255 0) no_counts
  unfolding status_on counts_on
  status_255 n =
      let e = ne_eqb (length b) size n in
      (sym (ap (λ (t : Bool). choose t (status_reply (queue_of b) k) (refusal 255 0)) e), sym (ap (λ (t : Bool). choose t (status_counts (queue_of b) k) no_counts) e))

  module _ (whole : length b ≡ size) where
    seen_by : (s : Slot) → slot_at (queue_of b) k ≡ s → Seen (status_for k s) (job_in s).progress.counts
    unfolding status_on counts_on
    seen_by s e =
        let w = eq-eqb (length b) size whole in (
          sym (ap (λ (t : Bool). choose t (status_reply (queue_of b) k) (refusal 255 0)) w ∙ ap (status_for k) e),
          sym (ap (λ (t : Bool). choose t (status_counts (queue_of b) k) no_counts) w ∙ ap (λ (x : Slot). (job_in x).progress.counts) e),
        )

    pub status_out : 8 ≤ k → Seen (refusal 38 0) no_counts
    status_out h = seen_by free (slot_out b k h)

    module _ (h : k < 8) where
      pub status_free : at b (slot_place k) ≡ 0 → Seen (refusal 38 0) no_counts
      status_free z = seen_by free (slot_in b k h ∙ free_at b k z)

      pub status_yes : (s plans nodes : ℕ) (counts : List ℕ) → (at b (slot_place k) ≡ 0 → ⊥) → s ≡ standing_at b (slot_place k) → plans ≡ plans_at b (slot_place k) →
          nodes ≡ nodes_at b (slot_place k) →
          counts ≡ counts_at b (slot_place k) → Seen (answered (served k (standing_by s plans nodes) plans nodes)) counts
      unfolding job_at rows_at
      status_yes s plans nodes counts n x y z c =
          let p = slot_place k in
          let r = seen_by (taken (job_at b p)) (slot_in b k h ∙ taken_at b k n) in (
            ap (λ (i : ℕ). answered (served k (standing_by i plans nodes) plans nodes)) x ∙ ap₂ (λ (i j : ℕ). answered (served k (standing_by (standing_at b p) i j) i j)) y z
                ∙ ap (λ (i : ℕ). answered (served k (standing_by (standing_at b p) (plans_at b p) (nodes_at b p)) i (nodes_at b p)))
                (sym (length_listed (width_at b p) (plans_at b p) (take LIST_BYTES (drop (p + LIST) b))))
                ∙ r.0,
            c ∙ r.1,
          )

pub status_call : StatusCall
status_call b k e = let s = seen_by b k e (slot_at (queue_of b) k) refl in (sym s.0, sym s.1)

pub status_other_size : StatusOtherSize
status_other_size b k n = let s = status_255 b k n in (sym s.0, sym s.1)

-- ---- releasing
-- so many rows of n bytes, one behind the other
pub flat_listed : (n k : ℕ) (l : List ℕ) → flat (listed_plans n k l) ≡ take (k * n) l
unfolding flat listed_plans
flat_listed n zero l = ap (λ (i : ℕ). take i l) (sym (zero-mul n))
flat_listed n (suc k) l =
    ap (λ (r : List ℕ). take n l ++ r) (flat_listed n k (drop n l)) ∙ sym (take-add n (k * n) l) ∙ ap (λ (i : ℕ). take i l) (let e = suc-mul k n in let f : n + k * n ≡ suc k * n = omega arith in f)

module _ (b : List ℕ) (k : ℕ) (room : List ℕ) where
  abbrev pub Releasing : QueueReply → List ℕ → List ℕ → Type 0
  Releasing r out c = (r ≡ reply_on b (release k room)) × ((out ≡ room_after (reply_on b (release k room)) room) × (c ≡ bytes_after b (release k room)))

  pub release_255 : (length b ≡ size → ⊥) → Releasing (refusal 255 0) room b
  release_255 n =
      let e = reply_wrong b (release k room) n in
      (sym e, (sym (ap (λ (r : QueueReply). room_after r room) e), sym (bytes_wrong b (release k room) n)))

  module _ (whole : length b ≡ size) where
    by_slot : (s : Slot) → slot_at (queue_of b) k ≡ s → Releasing (release_reply s room) (room_after (release_reply s room) room) (release_bytes s b k room)
    by_slot s e =
        let r = reply_whole b (release k room) whole ∙ ap (λ (x : Slot). release_reply x room) e in
        (sym r, (sym (ap (λ (x : QueueReply). room_after x room) r), sym (bytes_whole b (release k room) whole ∙ ap (λ (x : Slot). release_bytes x b k room) e)))

    pub release_out : 8 ≤ k → Releasing (refusal 38 0) room b
    release_out h = by_slot free (slot_out b k h)

    module _ (h : k < 8) where
      pub release_free : at b (slot_place k) ≡ 0 → Releasing (refusal 38 0) room b
      release_free z = by_slot free (slot_in b k h ∙ free_at b k z)

      abbrev job : Job
      job = job_at b (slot_place k)

      by_room : (t : Bool) → (at b (slot_place k) ≡ 0 → ⊥) → fits job room ≡ t → Releasing (release_for t job room) (room_after (release_for t job room) room) (choose t (set b (slot_place k) 0) b)
      by_room t n e = subst (λ (x : Bool). Releasing (release_for x job room) (room_after (release_for x job room) room) (choose x (set b (slot_place k) 0) b)) e
          (by_slot (taken job) (slot_in b k h ∙ taken_at b k n))

      module _ (n : ℕ) (is : n ≡ plans_at b (slot_place k) * width_at b (slot_place k)) (small : n ≤ LIST_BYTES) where
        listed : flat job.progress.rows ≡ take n (drop (slot_place k + LIST) b)
        unfolding job_at rows_at
        listed =
            let list = drop (slot_place k + LIST) b in
            flat_listed (width_at b (slot_place k)) (plans_at b (slot_place k)) (take LIST_BYTES list) ∙ ap (λ (i : ℕ). take i (take LIST_BYTES list)) (sym is) ∙ take-take n LIST_BYTES list small

        sized : length (flat job.progress.rows) ≡ n
        sized = ap length listed ∙ length-take-le n (drop (slot_place k + LIST) b) (let e = length-drop (slot_place k + LIST) b in omega arith)

        pub release_22 : (at b (slot_place k) ≡ 0 → ⊥) → length room < n → Releasing (refusal 22 0) room b
        release_22 z l = by_room false z (lt-leb (length (flat job.progress.rows)) (length room) (let e = sized in omega arith))

        pub release_yes : (m : ℕ) (out c : List ℕ) → m ≡ n → (at b (slot_place k) ≡ 0 → ⊥) → n ≤ length room → out ≡ placed room 0 (take m (drop (slot_place k + LIST) b)) → c ≡ set b (slot_place k) 0
            → Releasing (answered (released n out)) out c
        unfolding written placed
        release_yes m out c s z l e q =
            let r = by_room true z (le-leb (length (flat job.progress.rows)) (length room) (let e = sized in omega arith)) in
            let t = take n (drop (slot_place k + LIST) b) in
            let w : written job.progress.rows room ≡ out =
            ap (λ (x : List ℕ). x ++ drop (length x) room) listed ∙ ap (λ (i : ℕ). t ++ drop i room) (sym (zero-add (length t)))
            ∙ sym (e ∙ ap (λ (i : ℕ). placed room 0 (take i (drop (slot_place k + LIST) b))) s) in
            (ap₂ (λ (n : ℕ) (out : List ℕ). answered (released n out)) (sym sized) (sym w) ∙ r.0, (sym w ∙ r.1.0, q ∙ r.1.1))
