-- The slot that a turn serves: the first in the round whose run hasn't ended; all such slots. Assumes nothing.
use Rattle.model.specs.Kit.{◌≡◌, refl, sym, ap, ◌∙◌, subst, Bool, true, false, List, map, Memᴰ-of_map, ℕ, zero, suc, ◌+◌, ◌%◌, ◌^◌, ◌≤◌, ◌<◌, min, arith, eqb, ltb, pow-lt, eqb-true, eqb-false}
use Rattle.model.specs.Kit.{le-ltb, ltb-true, ltb-false, eq-eqb, ne_eqb}
use Rattle.model.specs.{Lists.at, Lists.both, Lists.below, ValueSets.has, ValueSets.mask_of, ValueSets.one_if, Inner.Filling.Gathered}
use Rattle.model.proofs.{Lists.below_e, Filling.gathered_is, Masks.is_mask}
use Rattle.desk.specs.{Queue.goes_on, Queue.waits, Queue.slot_at, Queue.none_found, Queue.slot, Queue.to_serve, Queue.standing_by, Inner.Places.STANDING, Inner.Places.NEXT, Inner.Layout.slot_place}
use Rattle.desk.specs.{Inner.Layout.plans_at, Inner.Layout.nodes_at, Inner.Layout.job_at, Inner.Layout.slot_of, Inner.Layout.queue_of}
use Rattle.desk.proofs.{Queue.none_first, Slots.first_at, Slots.slot_in, Slots.slot_out, Slots.free_at, Slots.taken_at}

-- ---- one slot
goes_by : (s plans made : ℕ) → goes_on (standing_by s plans made) ≡ eqb s 0
goes_by zero plans made = refl
goes_by (suc zero) plans made = refl
goes_by (suc (suc zero)) plans made = refl
goes_by (suc (suc (suc s))) plans made = sym (ne_eqb (suc (suc (suc s))) 0 (λ e. omega arith))

capped : (x : ℕ) → eqb (min 3 x) 0 ≡ eqb x 0
capped x = go (eqb x 0) refl
  where
    go : (t : Bool) → eqb x 0 ≡ t → eqb (min 3 x) 0 ≡ t
    go true e = let z = eqb-true x 0 e in eq-eqb (min 3 x) 0 (omega arith)
    go false e = ne_eqb (min 3 x) 0 (λ z. eqb-false x 0 e (omega arith))

pub free_quiet : (b : List ℕ) (k : ℕ) → at b (slot_place k) ≡ 0 → false ≡ waits (slot_of b k)
free_quiet b k e = sym (ap waits (free_at b k e))

pub taken_waits : (b : List ℕ) (k : ℕ) → (at b (slot_place k) ≡ 0 → ⊥) → eqb (at b (slot_place k + STANDING)) 0 ≡ waits (slot_of b k)
unfolding job_at
taken_waits b k n =
    let p = slot_place k in
    sym (ap waits (taken_at b k n) ∙ goes_by (min 3 (at b (p + STANDING))) (plans_at b p) (nodes_at b p) ∙ capped (at b (p + STANDING)))

-- ---- the round
module _ (b : List ℕ) where
  abbrev pub place : ℕ → ℕ
  place i = (at b NEXT + i) % 8

  abbrev pub Quiet : ℕ → Type 0
  Quiet i = (j : ℕ) → j < i → waits (slot_of b (place j)) ≡ false

  test : ℕ → Bool
  test k = waits (slot_at (queue_of b) k)

  at_place : (i : ℕ) → test (place i) ≡ waits (slot_of b (place i))
  unfolding test
  at_place i = ap waits (slot_in b (place i) (omega arith))

  pub quiet_more : (i : ℕ) → Quiet i → waits (slot_of b (place i)) ≡ false → Quiet (i + 1)
  quiet_more i q e j l = go (eqb j i) refl
    where
      go : (t : Bool) → eqb j i ≡ t → waits (slot_of b (place j)) ≡ false
      go true z = ap (λ (k : ℕ). waits (slot_of b (place k))) (eqb-true j i z) ∙ e
      go false z = let n = eqb-false j i z in q j (omega arith)

  pub serve_is : (i : ℕ) → i < 8 → Quiet i → waits (slot_of b (place i)) ≡ true → slot (place i) ≡ to_serve (queue_of b)
  unfolding test below
  serve_is i l q e =
      sym (first_at test place 8 0 i (omega arith) (omega arith) (λ j k m. at_place j ∙ q j m) (at_place i ∙ e))

  pub serve_none : (i : ℕ) → 8 ≤ i → Quiet i → none_found ≡ to_serve (queue_of b)
  unfolding test
  serve_none i l q =
      sym (none_first test (map place (below 8)) (λ k n. let r = Memᴰ-of_map place (below 8) n in let h = below_e 8 r.0 r.1 in ap test (sym r.2) ∙ at_place r.0 ∙ q r.0 (omega arith)))

-- ---- the slots that wait, as a set
pub one_lt : (t : Bool) (k s : ℕ) → k < 8 → s ≡ one_if t k → s < 2 ^ 16
one_lt true k s l e = subst (λ (x : ℕ). x < 2 ^ 16) (sym e) (pow-lt (let z : k < 16 = omega arith in z))
one_lt false k s l e = omega arith

pub waiting_is : (b : List ℕ) (s k : ℕ) → 8 ≤ k → k ≤ 8 → s < 2 ^ 16 → Gathered (λ j. waits (slot_of b j)) k s → s ≡ mask_of (λ j. waits (slot_at (queue_of b) j))
waiting_is b s k h l n g = is_mask s (λ j. waits (slot_at (queue_of b) j)) n (λ j m. each j (ltb j 8) refl)
  where
    each : (j : ℕ) (t : Bool) → ltb j 8 ≡ t → has s j ≡ waits (slot_at (queue_of b) j)
    each j true e = let m = ltb-true j 8 e in gathered_is (λ j. waits (slot_of b j)) k s j g (omega arith) ∙ sym (ap waits (slot_in b j m))
    each j false e = let m = ltb-false j 8 e in g.has_is j ∙ ap (λ (t : Bool). both t (waits (slot_of b j))) (le-ltb j k (omega arith)) ∙ sym (ap waits (slot_out b j m))
