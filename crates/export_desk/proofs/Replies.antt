-- What the queue's exported calls answer: a reply's numbers fit the code and the answer; answers of the length asked and of another. Assumes nothing.
use Rattle.model.specs.Kit.{◌≡◌, refl, sym, ap, ap₂, ◌∙◌, subst, Bool, true, false, List, ◌++◌, Memᴰ-of_map, ℕ, zero, suc, ◌+◌, ◌*◌, ◌%◌, ◌≤◌, ◌<◌, min, mul-le-mul, arith, eqb, ltb, length}
use Rattle.model.specs.Kit.{length-append, eq-eqb, ne_eqb, eqb-true, eqb-false, ltb-true, ltb-false}
use Rattle.model.specs.{Lists.at, Lists.choose, Lists.below, Verdict.Verdict, Verdict.accepted, Verdict.refused, Sheet.verdict_of, Bytes.four_bytes, Written.Written}
use Rattle.model.proofs.{Lists.below_e, Lists.at_replicate, Room.length_flat, Written.written_then}
use Rattle.wire.specs.Wire.{wrong_length, three_numbers}
use Rattle.wire.proofs.{Codes.Small, Codes.verdict_small, Numbers.whole}
use Rattle.desk.specs.Queue.{Job, job_turned, Slot, free, taken, is_free, waits, slot_turned, slot_at, Found, none_found, slot, lowest_free, round_from, to_serve, QueueCall, submit, turn, release}
use Rattle.desk.specs.Queue.{QueueReply, refusal, served_as, submit_reply, turn_reply, fits, release_for, release_reply, job_in, size, standing_by}
use Rattle.desk.specs.{Status.status_for, Status.no_counts, Rounds.RoundsReply, Inner.Places.LIMIT, Meaning.room_after}
use Rattle.desk.specs.Inner.Layout.{slot_place, width_at, job_at, queue_of, reply_on, status_on, counts_on, bytes_after, rounds_on, rounds_after}
use Rattle.desk.proofs.{Queue.first_in, Slots.long_small, Slots.slot_in, Slots.slot_out, Slots.free_at, Slots.taken_at, Turning.Fits, Turning.at_fits, Turning.turned_fits}
use Rattle.export_counts.specs.{Tallied.numbers_of, Inner.Inner.Twelve}
use Rattle.export_counts.proofs.Tallied.{length_numbers}
use Rattle.export_desk.specs.Told.{four_numbers, kind_of, reply_code, reply_answer, answer_length, queue_code, queue_bytes, queue_answer, release_room, status_bytes, status_code, status_answer}
use Rattle.export_desk.specs.Told.{rounds_reply_answer, rounds_code, rounds_queue, rounds_answer, CallQueue, CallRelease, CallStatus, CallRounds}
use Rattle.export_desk.specs.Inner.Fits.{ReplyFits, StatusFits}

-- ---- four numbers
pub put_four : {d e : List ℕ} {r : ℕ} {f : List ℕ} {s : ℕ} {g : List ℕ} {t : ℕ} {h : List ℕ} {u : ℕ} (kind a b c : ℕ) → 16 ≤ length d → Written d 0 (four_bytes kind) e r → Written e r
    (four_bytes a) f s → Written f s (four_bytes b) g t → Written g t (four_bytes c) h u →
    Written d 0 (four_numbers kind a b c) h u
unfolding four_bytes three_numbers four_numbers
put_four kind a b c l w x y z =
    written_then (omega (arith, w.ends, x.ends, y.ends)) (written_then (omega (arith, w.ends, x.ends)) (written_then (omega (arith, w.ends)) w x) y) z

pub sixteen : {n : ℕ} → n ≡ 16 → 16 ≤ n
sixteen e = omega arith

pub all_four : {d h : List ℕ} {u : ℕ} (kind a b c : ℕ) → length d ≡ 16 → Written d 0 (four_numbers kind a b c) h u → h ≡ four_numbers kind a b c
unfolding four_bytes three_numbers four_numbers
all_four kind a b c l w = whole (sym l) w

four_length : (kind a b c : ℕ) → length (four_numbers kind a b c) ≡ 16
unfolding four_bytes three_numbers four_numbers
four_length kind a b c = refl

-- with twelve counts behind them
pub all_counts : {d h : List ℕ} {u : ℕ} {e : List ℕ} {v : ℕ} (kind a b c : ℕ) (ks : List ℕ) → length d ≡ 64 → length ks ≡ 12 → Written d 0 (four_numbers kind a b c) h u → Written h u
    (numbers_of ks) e v → e ≡ four_numbers kind a b c ++ numbers_of ks
all_counts kind a b c ks l n w x =
    let m = four_length kind a b c in
    whole (omega (arith, length-append (four_numbers kind a b c) (numbers_of ks), length_numbers ks)) (written_then (omega (arith, w.ends)) w x)

pub after_four : {d h : List ℕ} {u : ℕ} (kind a b c : ℕ) → Written d 0 (four_numbers kind a b c) h u → u ≡ 16
after_four kind a b c w = let m = four_length kind a b c in omega (arith, w.ends)

-- the kind of a slot that stands so
pub kind_runs : (standing plans nodes : ℕ) → standing ≡ 0 → 4 ≡ kind_of (standing_by standing plans nodes)
kind_runs zero plans nodes e = refl
kind_runs (suc k) plans nodes e = absurd (omega arith)

pub kind_ends : (standing plans nodes : ℕ) → (standing ≡ 0 → ⊥) → min 3 standing ≡ kind_of (standing_by standing plans nodes)
kind_ends zero plans nodes n = absurd (n refl)
kind_ends (suc zero) plans nodes n = refl
kind_ends (suc (suc zero)) plans nodes n = refl
kind_ends (suc (suc (suc k))) plans nodes n = omega arith

-- ---- a reply fits
none_twelve : Twelve no_counts
unfolding at
none_twelve = record { long = refl; small = λ i. let z = at_replicate 12 i in omega arith }

module _ (b : List ℕ) (small : (i : ℕ) → at b i < 256) where
  sized : (x : QueueReply) (n : ℕ) → (length b ≡ size → ReplyFits x n) → ReplyFits (choose (eqb (length b) size) x (refusal 255 0)) n
  sized x n h = go (eqb (length b) size) refl
    where
      go : (t : Bool) → eqb (length b) size ≡ t → ReplyFits (choose t x (refusal 255 0)) n
      go true e = h (eqb-true (length b) size e)
      go false e = omega arith

  submit_holds : (f : Found) (v : Verdict) → ((k : ℕ) → f ≡ slot k → k < 8) → Small v → ReplyFits (submit_reply f v) 12
  submit_holds none_found v l s = omega arith
  submit_holds (slot k) (refused number item) l s = s
  submit_holds (slot k) accepted l s = (refl, (let z = l k refl in omega arith))

  module _ (e : length b ≡ size) where
    job_fits : (k : ℕ) → k < 8 → Fits b (slot_place k) (job_at b (slot_place k))
    job_fits k l = at_fits b (slot_place k) (omega arith) small

    -- a free slot, or the job of its bytes
    by_slot : (P : Slot → Type 0) (k : ℕ) → P free → (k < 8 → P (taken (job_at b (slot_place k)))) → P (slot_at (queue_of b) k)
    by_slot P k f g = go (ltb k 8) refl (eqb (at b (slot_place k)) 0) refl
      where
        go : (t : Bool) → ltb k 8 ≡ t → (u : Bool) → eqb (at b (slot_place k)) 0 ≡ u → P (slot_at (queue_of b) k)
        go false x u y = subst P (sym (slot_out b k (ltb-false k 8 x))) f
        go true x true y = let l = ltb-true k 8 x in subst P (sym (slot_in b k l ∙ free_at b k (eqb-true (at b (slot_place k)) 0 y))) f
        go true x false y = let l = ltb-true k 8 x in subst P (sym (slot_in b k l ∙ taken_at b k (eqb-false (at b (slot_place k)) 0 y))) (g l)

    job_holds : (k p : ℕ) (h : Job) → k < 8 → Fits b p h → ReplyFits (served_as k (taken h)) 16
    job_holds k p h l f = let n = f.few in let a = f.allowed in let m = f.limited in let z = long_small b small (p + LIMIT) in (refl, omega arith, omega arith, omega arith)

    status_fits : (k : ℕ) → StatusFits (status_for k (slot_at (queue_of b) k)) 64
    status_fits k = by_slot (λ s. StatusFits (status_for k s) 64) k (omega arith) (λ l. let h = job_holds k (slot_place k) (job_at b (slot_place k)) l (job_fits k l) in (refl, h.1, h.2, h.3))

    counts_fit : (k : ℕ) → Twelve (job_in (slot_at (queue_of b) k)).progress.counts
    unfolding at
    counts_fit k = by_slot (λ s. Twelve (job_in s).progress.counts) k none_twelve (λ l.
        let f = job_fits k l in
        let z = long_small b small (slot_place k + LIMIT) in
        let a = f.allowed in
        let e = f.limited in
        record { long = f.twelve; small = λ i. let n = f.counted i in omega arith })

    release_fits : (k : ℕ) (room : List ℕ) → ReplyFits (release_reply (slot_at (queue_of b) k) room) 12
    release_fits k room = by_slot (λ s. ReplyFits (release_reply s room) 12) k (omega arith) (λ l. go (fits (job_at b (slot_place k)) room) (job_fits k l))
      where
        go : (t : Bool) → Fits b (slot_place k) (job_at b (slot_place k)) → ReplyFits (release_for t (job_at b (slot_place k)) room) 12
        go true f =
            let n = length_flat (width_at b (slot_place k)) (job_at b (slot_place k)).progress.rows f.wide in
            let w : width_at b (slot_place k) ≤ 12 = omega arith in
            let m : length (job_at b (slot_place k)).progress.rows * width_at b (slot_place k) ≤ 4096 * 12 = mul-le-mul f.few w in
            (refl, omega arith)
        go false f = omega arith

  pub submit_reply_lem : (sheet : List ℕ) (limit : ℕ) → ReplyFits (reply_on b (submit sheet limit)) 12
  unfolding reply_on
  submit_reply_lem sheet limit =
      sized (submit_reply (lowest_free (queue_of b)) (verdict_of sheet)) 12
      (λ e. submit_holds (lowest_free (queue_of b)) (verdict_of sheet) (λ k f. below_e 8 k (first_in (λ n. is_free (slot_at (queue_of b) n)) (below 8) k f).1) (verdict_small sheet))

  -- a turn serves one of the eight slots
  turn_holds : (e : length b ≡ size) (f : Found) → to_serve (queue_of b) ≡ f → ReplyFits (turn_reply f (queue_of b)) 16
  turn_holds e none_found q = refl
  turn_holds e (slot k) q =
      let m = (first_in (λ n. waits (slot_at (queue_of b) n)) (round_from (queue_of b).next) k q).1 in
      let r = Memᴰ-of_map (λ i. ((queue_of b).next + i) % 8) (below 8) m in
      let l : k < 8 = (let z : ((queue_of b).next + r.0) % 8 ≡ k = r.2 in omega arith) in
      by_slot e (λ s. ReplyFits (served_as k (slot_turned s)) 16) k (refl, omega arith, omega arith, omega arith)
      (λ _. job_holds e k (slot_place k) (job_turned (job_at b (slot_place k))) l (turned_fits b (slot_place k) (job_at b (slot_place k)) (job_fits e k l)))

  pub turn_reply_lem : ReplyFits (reply_on b turn) 16
  unfolding reply_on
  turn_reply_lem = sized (turn_reply (to_serve (queue_of b)) (queue_of b)) 16 (λ e. turn_holds e (to_serve (queue_of b)) refl)

  pub status_reply : (k : ℕ) → StatusFits (status_on b k) 64
  unfolding status_on
  status_reply k = go (eqb (length b) size) refl
    where
      go : (t : Bool) → eqb (length b) size ≡ t → StatusFits (choose t (status_for k (slot_at (queue_of b) k)) (refusal 255 0)) 64
      go true e = status_fits (eqb-true (length b) size e) k
      go false e = omega arith

  pub status_twelve : (k : ℕ) → Twelve (counts_on b k)
  unfolding counts_on
  status_twelve k = go (eqb (length b) size) refl
    where
      go : (t : Bool) → eqb (length b) size ≡ t → Twelve (choose t (job_in (slot_at (queue_of b) k)).progress.counts no_counts)
      go true e = counts_fit (eqb-true (length b) size e) k
      go false e = none_twelve

  pub release_reply_lem : (k : ℕ) (room : List ℕ) → ReplyFits (reply_on b (release k room)) 12
  unfolding reply_on
  release_reply_lem k room = sized (release_reply (slot_at (queue_of b) k) room) 12 (λ e. release_fits e k room)

-- ---- by the answer's length
module _ {A : Type 0} (yes other : A) (answer : List ℕ) (n : ℕ) where
  short : (length answer ≡ n → ⊥) → other ≡ choose (eqb (length answer) n) yes other
  short h = sym (ap (λ (t : Bool). choose t yes other) (ne_eqb (length answer) n h))

  full : length answer ≡ n → yes ≡ choose (eqb (length answer) n) yes other
  full h = sym (ap (λ (t : Bool). choose t yes other) (eq-eqb (length answer) n h))

module _ (b : List ℕ) (x : QueueCall) (answer : List ℕ) where
  pub unanswered : (length answer ≡ answer_length x → ⊥) → CallQueue b x answer wrong_length b answer
  unfolding queue_code queue_bytes queue_answer
  unanswered h = record {
    code = short (reply_code (reply_on b x)) wrong_length answer (answer_length x) h;
    bytes = short (bytes_after b x) b answer (answer_length x) h;
    told = short (reply_answer (reply_on b x) answer) answer answer (answer_length x) h;
  }

  pub replied : length answer ≡ answer_length x → (r : QueueReply) → r ≡ reply_on b x → (n : ℕ) (c d : List ℕ) → n ≡ reply_code r → c ≡ bytes_after b x → d ≡ reply_answer r answer
      → CallQueue b x answer n c d
  unfolding queue_code queue_bytes queue_answer
  replied h r e n c d f g i = record {
    code = f ∙ ap reply_code e ∙ full (reply_code (reply_on b x)) wrong_length answer (answer_length x) h;
    bytes = g ∙ full (bytes_after b x) b answer (answer_length x) h;
    told = i ∙ ap (λ (q : QueueReply). reply_answer q answer) e ∙ full (reply_answer (reply_on b x) answer) answer answer (answer_length x) h;
  }

-- reading the status changes nothing
module _ (b : List ℕ) (k : ℕ) (answer : List ℕ) where
  pub status_short : (length answer ≡ 64 → ⊥) → CallStatus b k answer wrong_length answer
  unfolding status_code status_answer
  status_short h = record { code = short (reply_code (status_on b k)) wrong_length answer 64 h; told = short (status_bytes (status_on b k) (counts_on b k) answer) answer answer 64 h }

  pub status_done : length answer ≡ 64 → (r : QueueReply) (counts : List ℕ) → r ≡ status_on b k → counts ≡ counts_on b k → (n : ℕ) (d : List ℕ) → n ≡ reply_code r → d ≡ status_bytes r counts answer
      → CallStatus b k answer n d
  unfolding status_code status_answer
  status_done h r counts e g n d f i = record {
    code = f ∙ ap reply_code e ∙ full (reply_code (status_on b k)) wrong_length answer 64 h;
    told = i ∙ ap₂ (λ (q : QueueReply) (l : List ℕ). status_bytes q l answer) e g ∙ full (status_bytes (status_on b k) (counts_on b k) answer) answer answer 64 h;
  }

-- a release may change its room too
module _ (b : List ℕ) (k : ℕ) (room answer : List ℕ) where
  pub release_short : (length answer ≡ 12 → ⊥) → CallRelease b k room answer wrong_length b room answer
  unfolding release_room
  release_short h =
      let u = unanswered b (release k room) answer h in
      record { code = u.code; bytes = u.bytes; written = short (room_after (reply_on b (release k room)) room) room answer 12 h; told = u.told }

  pub release_done : length answer ≡ 12 → (r : QueueReply) → r ≡ reply_on b (release k room) → (n : ℕ) (c out d : List ℕ) → n ≡ reply_code r → c ≡ bytes_after b (release k room) → out ≡ room_after
      (reply_on b (release k room)) room → d ≡ reply_answer r answer →
      CallRelease b k room answer n c out d
  unfolding release_room
  release_done h r e n c out d f g o i =
      let u = replied b (release k room) answer h r e n c d f g i in
      record { code = u.code; bytes = u.bytes; written = o ∙ full (room_after (reply_on b (release k room)) room) room answer 12 h; told = u.told }

-- ---- rounds
module _ (b : List ℕ) (r : ℕ) (answer : List ℕ) where
  pub unrounded : (length answer ≡ 12 → ⊥) → CallRounds b r answer wrong_length b answer
  unfolding rounds_code rounds_queue rounds_answer
  unrounded h = record {
    code = short (reply_code (rounds_on b r)) wrong_length answer 12 h;
    bytes = short (rounds_after b r) b answer 12 h;
    told = short (rounds_reply_answer (rounds_on b r) answer) answer answer 12 h;
  }

  pub rounded : length answer ≡ 12 → (x : RoundsReply) → x ≡ rounds_on b r → (n : ℕ) (c d : List ℕ) → n ≡ reply_code x → c ≡ rounds_after b r → d ≡ rounds_reply_answer x answer
      → CallRounds b r answer n c d
  unfolding rounds_code rounds_queue rounds_answer
  rounded h x e n c d f g i = record {
    code = f ∙ ap reply_code e ∙ full (reply_code (rounds_on b r)) wrong_length answer 12 h;
    bytes = g ∙ full (rounds_after b r) b answer 12 h;
    told = i ∙ ap (λ (q : RoundsReply). rounds_reply_answer q answer) e ∙ full (rounds_reply_answer (rounds_on b r) answer) answer answer 12 h;
  }
