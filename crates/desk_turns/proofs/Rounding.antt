-- Rounds: going by the slots, each is given the turns due to it, and where the turn after them begins to look is kept. Assumes nothing.
use Rattle.model.specs.Kit.{◌≡◌, refl, sym, ap, ap₂, ◌∙◌, subst, Bool, true, false, not, ◌⊎◌, inl, inr, List, [], ◌∷◌, map, ℕ, suc, ◌+◌, ◌-◌, ◌%◌, ◌^◌, ◌≤◌, ◌<◌, arith, bit_and, eqb, ltb, leb, length}
use Rattle.model.specs.Kit.{set, eq-eqb, ne_eqb, lt-ltb, le-leb, lt-leb, ltb-true}
use Rattle.model.specs.{Lists.at, Lists.both, Lists.choose, Lists.below, Lists.up_from, ValueSets.has, ValueSets.mask_of}
use lib.Bits.{and_lt}
use Rattle.model.proofs.{Lists.both_false, Masks.is_mask, Masks.has_and, Masks.has_not, Sets.has_mask, Sets.mask_lt}
use Rattle.desk.specs.Inner.Layout.{slot_place, job_at, slot_of, queue_of, with_run, round_bytes, rounds_bytes, rounds_on, rounds_after}
use Rattle.desk.specs.Queue.{Slot, free, taken, waits, Queue, slot_at, round_from, refusal, answered, size}
use Rattle.desk.specs.{Rounds.due, Rounds.due_at, Rounds.given, Rounds.rounds_queue, Rounds.RoundsReply, Rounds.rounds_reply, Inner.Rounds.behind_last, Inner.Places.NEXT, Claims.QueueBytes}
use Rattle.desk.proofs.{Slots.slot_in, Slots.row_length, Rounds.due_over, Rounds.due_none, Rounds.at_once, RoundCalls.Served, RoundCalls.serve, RoundCalls.rounds_bytes_lem}
use Rattle.desk_turns.specs.{Inner.Served.ServedAt, Inner.Served.GivenAt, declared.serve.Served.Served as Result}
use Rattle.desk_waits.proofs.Finding.{place}
use Rattle.desk_turns.proofs.Serving.{slot_is, walk}

-- ---- one slot
pub none_due : (b : List ℕ) (k r : ℕ) → due_at r (slot_of b k) ≡ 0 → GivenAt b k r b 0
none_due b k r e = record { written = sym (ap (λ (t : Bool). choose t b (with_run b (slot_place k) (given r (job_at b (slot_place k))))) (eq-eqb (due_at r (slot_of b k)) 0 e)); turns = sym e }

quiet_none : (r : ℕ) (s : Slot) → waits s ≡ false → due_at r s ≡ 0
quiet_none r free e = refl
quiet_none r (taken h) e = due_over r h e

pub no_turns : (b : List ℕ) (k r : ℕ) → r ≡ 0 → GivenAt b k r b 0
no_turns b k r e = none_due b k r (ap (λ (n : ℕ). due_at n (slot_of b k)) e ∙ due_none (slot_of b k))

pub no_wait : (b : List ℕ) (k r : ℕ) → waits (slot_of b k) ≡ false → GivenAt b k r b 0
no_wait b k r e = none_due b k r (quiet_none r (slot_of b k) e)

pub some_due : (b : List ℕ) (k r : ℕ) (d : QueueBytes b) (l : k < 8) (w : waits (slot_of b k) ≡ true) → 1 ≤ r → (c : List ℕ) (s : Result) → ServedAt b k r c s → GivenAt b k r c s.turns
some_due b k r d l w o c s q =
    let e : due_at r (slot_of b k) ≡ due r (job_at b (slot_place k)) = ap (due_at r) (slot_is b k d l w) in
    let n : due_at r (slot_of b k) ≡ 0 → ⊥ = λ z. (let y = (walk b k d l w r o).turns in omega arith) in
    record { written = q.written ∙ sym (ap (λ (t : Bool). choose t b (with_run b (slot_place k) (given r (job_at b (slot_place k))))) (ne_eqb (due_at r (slot_of b k)) 0 n)); turns = q.turns ∙ sym e }

-- ---- the round
-- a bound of 1 is none
first_best : (f : ℕ → ℕ) (ks : List ℕ) (next : ℕ) → behind_last f ks 1 next ≡ behind_last f ks 0 next
unfolding behind_last
first_best f [] next = refl
first_best f (k ∷ ks) next =
    ap (λ (t : Bool). choose t (behind_last f ks (f k) ((k + 1) % 8)) (behind_last f ks 1 next)) (same (ltb 0 (f k)) refl) ∙ ap
    (choose (both (ltb 0 (f k)) (leb 0 (f k))) (behind_last f ks (f k) ((k + 1) % 8))) (first_best f ks next)
  where
    same : (t : Bool) → ltb 0 (f k) ≡ t → both (ltb 0 (f k)) (leb 1 (f k)) ≡ both (ltb 0 (f k)) (leb 0 (f k))
    same true e = let z = ltb-true 0 (f k) e in ap (both (ltb 0 (f k))) (le-leb 1 (f k) z ∙ sym (le-leb 0 (f k) (omega arith)))
    same false e = ap (λ (t : Bool). both t (leb 1 (f k))) e ∙ sym (ap (λ (t : Bool). both t (leb 0 (f k))) e)

module _ (b : List ℕ) (r : ℕ) where
  -- the turns due to a slot, and the slots from i on
  abbrev turns : ℕ → ℕ
  turns k = due_at r (slot_at (queue_of b) k)

  abbrev rest : ℕ → List ℕ
  rest i = map (place b) (up_from i (8 - i))

  pub record RoundTo (i : ℕ) (cur : List ℕ) (best next : ℕ) : Type 0 where
    pub bytes : QueueBytes cur
    pub run : round_bytes r (rest i) cur ≡ round_bytes r (rest 0) b
    pub behind : behind_last turns (rest i) best next ≡ behind_last turns (rest 0) 0 (at b NEXT)
    pub some : 1 ≤ best
    pub others : (j : ℕ) → i ≤ j → j < 8 → slot_of cur (place b j) ≡ slot_of b (place b j)

  pub round_begin : QueueBytes b → RoundTo 0 b 1 (at b NEXT)
  round_begin d = record { bytes = d; run = refl; behind = first_best turns (rest 0) (at b NEXT); some = omega arith; others = λ j l m. refl }

  next_rest : (i : ℕ) → i < 8 → rest i ≡ place b i ∷ rest (i + 1)
  unfolding up_from
  next_rest i l = ap (λ (n : ℕ). map (place b) (up_from i n)) (let z : 8 - i ≡ suc (8 - (i + 1)) = omega arith in z) ∙ ap (λ (n : ℕ). place b i ∷ map (place b) (up_from n (8 - (i + 1))))
      (let z : suc i ≡ i + 1 = omega arith in z)

  module _ (i : ℕ) (l : i < 8) (cur : List ℕ) (best next : ℕ) (t : RoundTo i cur best next) (c : List ℕ) (took : ℕ) (g : GivenAt cur (place b i) r c took) where
    abbrev k : ℕ
    k = place b i

    inside : k < 8
    inside = omega arith

    here : took ≡ turns k
    here = g.turns ∙ ap (due_at r) (t.others i (omega arith) l ∙ sym (slot_in b k inside))

    one : Served r cur t.bytes k inside c
    one = subst (Served r cur t.bytes k inside) (sym g.written) (serve r cur t.bytes k inside)

    run_on : round_bytes r (rest (i + 1)) c ≡ round_bytes r (rest 0) b
    unfolding round_bytes
    run_on = ap (round_bytes r (rest (i + 1))) g.written ∙ sym (ap (λ (ks : List ℕ). round_bytes r ks cur) (next_rest i l)) ∙ t.run

    choice : ℕ → ℕ → Bool
    choice x y = both (ltb 0 y) (leb x y)

    step : behind_last turns (rest i) best next ≡ choose (choice best took) (behind_last turns (rest (i + 1)) took ((k + 1) % 8)) (behind_last turns (rest (i + 1)) best next)
    unfolding behind_last choice
    step =
        ap (λ (ks : List ℕ). behind_last turns ks best next) (next_rest i l)
        ∙ ap (λ (x : ℕ). choose (choice best x) (behind_last turns (rest (i + 1)) x ((k + 1) % 8)) (behind_last turns (rest (i + 1)) best next)) (sym here)

    pub round_more : (best' next' : ℕ) → ((best ≤ took) × (next' ≡ (k + 1) % 8) × (best' ≡ took)) ⊎ ((took < best) × (next' ≡ next) × (best' ≡ best)) → RoundTo (i + 1) c best' next'
    unfolding choice
    round_more best' next' came =
        record { bytes = one.bytes; run = run_on; behind = kept came; some = least came; others = λ j m n. one.others (place b j) (omega arith) (λ e. omega arith) ∙ t.others j (omega arith) n }
      where
        least : ((best ≤ took) × (next' ≡ (k + 1) % 8) × (best' ≡ took)) ⊎ ((took < best) × (next' ≡ next) × (best' ≡ best)) → 1 ≤ best'
        least (inl q) = let a = t.some in let e = q.0 in let f = q.2 in omega arith
        least (inr q) = let a = t.some in let f = q.2 in omega arith

        yes : best ≤ took → choice best took ≡ true
        yes h = let a = t.some in ap₂ both (lt-ltb 0 took (omega arith)) (le-leb best took h)

        no : took < best → choice best took ≡ false
        no h = ap (both (ltb 0 took)) (lt-leb best took h) ∙ both_false (ltb 0 took)

        kept : ((best ≤ took) × (next' ≡ (k + 1) % 8) × (best' ≡ took)) ⊎ ((took < best) × (next' ≡ next) × (best' ≡ best)) → behind_last turns (rest (i + 1)) best' next' ≡ behind_last turns
            (rest 0) 0 (at b NEXT)
        kept (inl q) =
            ap₂ (behind_last turns (rest (i + 1))) q.2 q.1
            ∙ sym (ap (λ (x : Bool). choose x (behind_last turns (rest (i + 1)) took ((k + 1) % 8)) (behind_last turns (rest (i + 1)) best next)) (yes q.0)) ∙ sym step ∙ t.behind
        kept (inr q) =
            ap₂ (behind_last turns (rest (i + 1))) q.2 q.1
            ∙ sym (ap (λ (x : Bool). choose x (behind_last turns (rest (i + 1)) took ((k + 1) % 8)) (behind_last turns (rest (i + 1)) best next)) (no q.0)) ∙ sym step ∙ t.behind

  pub round_end : (i : ℕ) (cur : List ℕ) (best next : ℕ) → 8 ≤ i → i ≤ 8 → RoundTo i cur best next → (cur ≡ round_bytes r (round_from (at b NEXT)) b) × (next ≡ (rounds_queue (queue_of b) r).next)
  unfolding round_bytes behind_last below up_from
  round_end i cur best next h l t =
      let e : rest i ≡ [] = ap (λ (n : ℕ). map (place b) (up_from i n)) (let z : 8 - i ≡ 0 = omega arith in z) in
      let same = at_once (queue_of b) r (row_length (slot_of b) 8 0) in (
        sym (ap (λ (ks : List ℕ). round_bytes r ks cur) e) ∙ t.run,
        sym (ap (λ (ks : List ℕ). behind_last turns ks best next) e) ∙ t.behind ∙ ap (λ (q : Queue). q.next) same,
      )

-- ---- rounds
module _ (b : List ℕ) (r : ℕ) where
  abbrev pub Rounded : RoundsReply → List ℕ → Type 0
  Rounded x c = (x ≡ rounds_on b r) × (c ≡ rounds_after b r)

  pub rounds_255 : (length b ≡ size → ⊥) → Rounded (refusal 255 0) b
  unfolding rounds_on rounds_after
  rounds_255 n = let e = ne_eqb (length b) size n in (sym (ap (λ (t : Bool). choose t (rounds_reply (queue_of b) r) (refusal 255 0)) e), sym (ap (λ (t : Bool). choose t (rounds_bytes b r) b) e))

  pub rounded : QueueBytes b → (before going next : ℕ) (c c' : List ℕ) → before ≡ mask_of (λ k. waits (slot_at (queue_of b) k)) → c ≡ round_bytes r (round_from (at b NEXT)) b → next ≡ (rounds_queue
      (queue_of b) r).next → c' ≡ set c NEXT next →
      going ≡ mask_of (λ k. waits (slot_at (queue_of c') k)) → Rounded (answered (bit_and before (65535 - going), going)) c'
  unfolding rounds_on rounds_after rounds_bytes
  rounded d before going next c c' eb ec en es eg = (
    ap₂ (λ (x y : ℕ). answered (x, y)) (is_mask ended over ended_small ended_has) (is_mask going on going_small (λ v l. going_has v l))
        ∙ sym (ap (λ (t : Bool). choose t (rounds_reply (queue_of b) r) (refusal 255 0)) whole),
    whole_bytes ∙ sym (ap (λ (t : Bool). choose t (rounds_bytes b r) b) whole),
  )
    where
      whole : eqb (length b) size ≡ true
      whole = eq-eqb (length b) size d.0

      whole_bytes : c' ≡ rounds_bytes b r
      whole_bytes = es ∙ ap₂ (λ (x : List ℕ) (y : ℕ). set x NEXT y) ec en

      queue_is : queue_of c' ≡ rounds_queue (queue_of b) r
      queue_is = ap queue_of whole_bytes ∙ (rounds_bytes_lem b r d).0

      was : ℕ → Bool
      was k = waits (slot_at (queue_of b) k)

      on : ℕ → Bool
      on k = waits (slot_at (rounds_queue (queue_of b) r) k)

      over : ℕ → Bool
      over k = both (was k) (not (on k))

      ended : ℕ
      ended = bit_and before (65535 - going)

      going_small : going < 2 ^ 16
      going_small = subst (λ (x : ℕ). x < 2 ^ 16) (sym eg) (mask_lt 16 (λ k. waits (slot_at (queue_of c') k)))

      going_has : (v : ℕ) → v < 16 → has going v ≡ on v
      going_has v l = ap (λ (x : ℕ). has x v) eg ∙ has_mask 16 (λ k. waits (slot_at (queue_of c') k)) v l ∙ ap (λ (x : Queue). waits (slot_at x v)) queue_is

      before_has : (v : ℕ) → v < 16 → has before v ≡ was v
      before_has v l = ap (λ (x : ℕ). has x v) eb ∙ has_mask 16 was v l

      ended_small : ended < 2 ^ 16
      ended_small = and_lt 16 before (65535 - going) (subst (λ (x : ℕ). x < 2 ^ 16) (sym eb) (mask_lt 16 was)) (omega arith)

      ended_has : (v : ℕ) → v < 16 → has ended v ≡ over v
      ended_has v l = has_and before (65535 - going) v ∙ ap₂ both (before_has v l) (has_not 16 going v going_small l ∙ ap not (going_has v l))
