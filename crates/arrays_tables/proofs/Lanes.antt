-- Numbers of eight lanes: eight sets in one number, and all of the lanes of a set. Assumes nothing.
use Rattle.model.specs.Kit.{◌≡◌, refl, sym, ap, ap₂, ◌∙◌, subst, Bool, true, false, List, ℕ, zero, suc, ◌+◌, ◌-◌, ◌*◌, ◌/◌, ◌%◌, ◌^◌, ◌≤◌, ◌<◌, arith, bit_and, bit_or, eqb, ltb, lit<, length, set}
use Rattle.model.specs.Kit.{or_lt, ltb-true, ltb-false, lt-ltb, le-ltb}
use Rattle.model.specs.{Lists.at, Lists.both, Lists.either, ValueSets.has, Inner.Filling.Filled}
use lib.Bits.{and_le_r}
use lib.Pow.{pow-add, pow_mono, pow_pos}
use Rattle.model.proofs.{Filling.filled_begin, Filling.filled_turn, Filling.filled_end, Lists.both_true, Lists.both_false, Sets.has_zero, Sets.has_suc, Sets.has_none, Sets.has_mask, Sets.pow2}
use Rattle.model.proofs.{Masks.has_and, Masks.has_or, Masks.has_ones, Masks.has_shr, Masks.byte_has, Masks.byte_lt, Members.either_no}
use Rattle.arrays.specs.{Inner.Places.SPREAD, Inner.Tables.between}
use Rattle.arrays_tables.specs.Inner.Steps.{Lanes, Word, Turned, Spread}
use Rattle.arrays_tables.proofs.Bits.{low_bits, high_bits}

-- ---- one lane more in front
first_lane : (a b w : ℕ) → w < 8 → has (256 * a + b) (8 * 0 + w) ≡ has b w
first_lane a b w h = let z : 8 * 0 + w ≡ w = omega arith in ap (has (256 * a + b)) z ∙ low_bits 8 a b w h

next_lane : (a b v w : ℕ) → b < 256 → has (256 * a + b) (8 * suc v + w) ≡ has a (8 * v + w)
next_lane a b v w h = let z : 8 * suc v + w ≡ 8 + (8 * v + w) = omega arith in ap (has (256 * a + b)) z ∙ high_bits a b (8 * v + w) h

grown : (t : ℕ) → 2 ^ (8 * (t + 1)) ≡ 2 ^ (8 * t) * 256
grown t = let e : 8 * (t + 1) ≡ 8 * t + 8 = omega arith in ap (λ (n : ℕ). 2 ^ n) e ∙ pow-add 2 (8 * t) 8

-- ---- eight sets: the last t of them
pub record LanesSoFar (sets : ℕ → ℕ) (t all : ℕ) : Type 0 where
  pub few : t ≤ 8
  pub small : all < 2 ^ (8 * t)
  pub lanes : (v w : ℕ) → v < t → w < 8 → has all (8 * v + w) ≡ has (sets (8 - t + v)) w

pub lanes_begin : (sets : ℕ → ℕ) → LanesSoFar sets 0 0
lanes_begin sets = record { few = omega arith; small = omega arith; lanes = λ v w l. absurd (omega arith) }

pub lanes_fit : (sets : ℕ → ℕ) (t all s : ℕ) → LanesSoFar sets t all → t < 8 → 256 * all + bit_and s 255 < 2 ^ 64
lanes_fit sets t all s r h =
    let l : 8 * (t + 1) ≤ 64 = omega arith in
    let m : 2 ^ (8 * (t + 1)) ≤ 2 ^ 64 = pow_mono l in
    omega (arith, grown t, byte_lt s, r.small)

pub lanes_turn : (sets : ℕ → ℕ) (t all : ℕ) → LanesSoFar sets t all → t < 8 → LanesSoFar sets (t + 1) (256 * all + bit_and (sets (7 - t)) 255)
lanes_turn sets t all r h = record {
  few = omega arith;
  small = omega (arith, grown t, byte_lt (sets (7 - t)), r.small);
  lanes = lane;
}
  where
    lane : (v w : ℕ) → v < t + 1 → w < 8 → has (256 * all + bit_and (sets (7 - t)) 255) (8 * v + w) ≡ has (sets (8 - (t + 1) + v)) w
    lane zero w l k =
        let q : 7 - t ≡ 8 - (t + 1) + 0 = omega arith in
        first_lane all (bit_and (sets (7 - t)) 255) w k ∙ byte_has (sets (7 - t)) w k ∙ ap (λ (n : ℕ). has (sets n) w) q
    lane (suc v) w l k =
        let q : 8 - t + v ≡ 8 - (t + 1) + suc v = omega arith in
        next_lane all (bit_and (sets (7 - t)) 255) v w (byte_lt (sets (7 - t))) ∙ r.lanes v w (omega arith) k ∙ ap (λ (n : ℕ). has (sets n) w) q

pub lanes_end : (sets : ℕ → ℕ) (t all : ℕ) → 8 ≤ t → LanesSoFar sets t all → Lanes sets all
lanes_end sets t all h r v w l k = let e : 8 - t + v ≡ v = omega arith in r.lanes v w (omega arith) k ∙ ap (λ (n : ℕ). has (sets n) w) e

-- ---- one value of each lane of eight numbers
-- the first bits of k lanes
firsts : ℕ → ℕ
firsts zero = 0
firsts (suc k) = 256 * firsts k + 1

first_bit : (k u v : ℕ) → u < k → v < 8 → has (firsts k) (8 * u + v) ≡ has 1 v
unfolding firsts
first_bit zero u v l h = absurd (omega arith)
first_bit (suc k) zero v l h = first_lane (firsts k) 1 v h
first_bit (suc k) (suc u) v l h = next_lane (firsts k) 1 u v (lit< tt) ∙ first_bit k u v (omega arith) h

-- by the last t of the numbers
pub record TurnedSoFar (words : ℕ → ℕ) (w t all : ℕ) : Type 0 where
  pub few : t ≤ 8
  pub small : all < 2 ^ (56 + t)
  pub turned : (u v : ℕ) → u < 8 → v < 8 → has all (8 * u + v) ≡ both (ltb v t) (has (words (8 - t + v)) (8 * u + w))

pub turned_begin : (words : ℕ → ℕ) (w : ℕ) → TurnedSoFar words w 0 0
turned_begin words w = record {
  few = omega arith;
  small = pow_pos 56;
  turned = λ u v l h. has_none (8 * u + v) ∙ sym (ap (λ (b : Bool). both b (has (words (8 - 0 + v)) (8 * u + w))) (le-ltb v 0 (omega arith)));
}

pub turned_fit : (words : ℕ → ℕ) (w t all : ℕ) → TurnedSoFar words w t all → t < 8 → 2 * all < 2 ^ 64
turned_fit words w t all r h =
    let l : suc (56 + t) ≤ 64 = omega arith in
    let m : 2 ^ suc (56 + t) ≤ 2 ^ 64 = pow_mono l in
    omega (arith, pow2 (56 + t), r.small)

module _ (words : ℕ → ℕ) (w t all : ℕ) (r : TurnedSoFar words w t all) (h : t < 8) where
  abbrev ones : ℕ
  ones = 72340172838076673

  abbrev next : ℕ
  next = bit_and (words (7 - t) / 2 ^ w) ones

  -- a bit of the next number stands first in its lane
  next_has : (u v : ℕ) → u < 8 → v < 8 → has next (8 * u + v) ≡ both (has (words (7 - t)) (w + (8 * u + v))) (has 1 v)
  unfolding firsts
  next_has u v l k = has_and (words (7 - t) / 2 ^ w) ones (8 * u + v) ∙ ap₂ both (has_shr (words (7 - t)) w (8 * u + v)) (first_bit 8 u v l k)

  twice_has : (i : ℕ) → has (2 * all) (suc i) ≡ has all i
  twice_has i = let e : 2 * all / 2 ≡ all = omega arith in has_suc (2 * all) i ∙ ap (λ (n : ℕ). has n i) e

  -- nothing stands before the first lane, nor last in a lane
  free : (u : ℕ) → u < 8 → has (2 * all) (8 * u + 0) ≡ false
  free zero l = let e : 2 * all % 2 ≡ 0 = omega arith in has_zero (2 * all) ∙ ap (λ (n : ℕ). eqb n 1) e
  free (suc u) l =
      let e : 8 * suc u + 0 ≡ suc (8 * u + 7) = omega arith in
      ap (has (2 * all)) e ∙ twice_has (8 * u + 7) ∙ r.turned u 7 (omega arith) (lit< tt) ∙ ap (λ (b : Bool). both b (has (words (8 - t + 7)) (8 * u + w))) (le-ltb 7 t (omega arith))

  below : (v : ℕ) → ltb v t ≡ ltb (suc v) (t + 1)
  below v = go (ltb v t) refl
    where
      go : (b : Bool) → ltb v t ≡ b → ltb v t ≡ ltb (suc v) (t + 1)
      go true e = e ∙ sym (lt-ltb (suc v) (t + 1) (omega (arith, ltb-true v t e)))
      go false e = e ∙ sym (le-ltb (suc v) (t + 1) (omega (arith, ltb-false v t e)))

  small : bit_or (2 * all) next < 2 ^ (56 + (t + 1))
  small =
      let e : 56 + (t + 1) ≡ suc (56 + t) = omega arith in
      let l : 57 ≤ 56 + (t + 1) = omega arith in
      let m : 2 ^ 57 ≤ 2 ^ (56 + (t + 1)) = pow_mono l in
      let o : ones < 2 ^ 57 = lit< tt in
      let d : next ≤ ones = and_le_r (words (7 - t) / 2 ^ w) ones in
      or_lt (56 + (t + 1)) (2 * all) next (subst (λ (n : ℕ). 2 * all < 2 ^ n) (sym e) (omega (arith, pow2 (56 + t), r.small))) (omega (arith, m, o, d))

  turn : (u v : ℕ) → u < 8 → v < 8 → has (bit_or (2 * all) next) (8 * u + v) ≡ both (ltb v (t + 1)) (has (words (8 - (t + 1) + v)) (8 * u + w))
  turn u zero l k =
      let e : w + (8 * u + 0) ≡ 8 * u + w = omega arith in
      let f : 7 - t ≡ 8 - (t + 1) + 0 = omega arith in
      has_or (2 * all) next (8 * u + 0) ∙ ap₂ either (free u l) (next_has u 0 l k ∙ ap (both (has (words (7 - t)) (w + (8 * u + 0)))) (has_zero 1)) ∙ both_true (has (words (7 - t)) (w + (8 * u + 0)))
      ∙ ap₂ (λ (n i : ℕ). has (words n) i) f e ∙ ap (λ (b : Bool). both b (has (words (8 - (t + 1) + 0)) (8 * u + w))) (sym (lt-ltb 0 (t + 1) (omega arith)))
  turn u (suc v) l k =
      let e : 8 * u + suc v ≡ suc (8 * u + v) = omega arith in
      let f : 8 - t + v ≡ 8 - (t + 1) + suc v = omega arith in
      has_or (2 * all) next (8 * u + suc v)
      ∙ ap₂ either (ap (has (2 * all)) e ∙ twice_has (8 * u + v) ∙ r.turned u v l (omega arith))
      (next_has u (suc v) l k ∙ ap (both (has (words (7 - t)) (w + (8 * u + suc v)))) (has_suc 1 v ∙ has_none v) ∙ both_false (has (words (7 - t)) (w + (8 * u + suc v))))
      ∙ either_no (both (ltb v t) (has (words (8 - t + v)) (8 * u + w))) ∙ ap₂ both (below v) (ap (λ (n : ℕ). has (words n) (8 * u + w)) f)

  pub turned_turn : TurnedSoFar words w (t + 1) (bit_or (2 * all) (bit_and (words (7 - t) / 2 ^ w) 72340172838076673))
  turned_turn = record { few = omega arith; small = small; turned = turn }

pub turned_end : (words : ℕ → ℕ) (w t all : ℕ) → 8 ≤ t → TurnedSoFar words w t all → Turned words w all
turned_end words w t all h r u v l k =
    let e : 8 - t + v ≡ v = omega arith in
    r.turned u v l k ∙ ap₂ both (lt-ltb v t (omega arith)) (ap (λ (n : ℕ). has (words n) (8 * u + w)) e)

-- of the numbers of the second variable's values: a number of a value of the third
pub turned_lanes : (supports : List ℕ) (k w : ℕ) (words : ℕ → ℕ) (r : ℕ) → w < 8 → ((v : ℕ) → v < 8 → Word supports k v (words v)) → Turned words w r → Lanes (between supports k w) r
turned_lanes supports k w words r h m t u v l i =
    let e : 256 * k + v % 8 + 16 * u ≡ 256 * k + 16 * u + v = omega arith in
    t u v l i ∙ (m v i).second (omega arith) u w l h ∙ ap (λ (n : ℕ). has (at supports n) w) e
    ∙ sym (has_mask 16 (λ v. has (at supports (256 * k + 16 * u + v)) w) v (omega arith))

-- ---- all of the lanes of a set
spread_none : Spread 0 0
spread_none = record { lanes = λ j w h. has_none (8 * j + w) ∙ sym (has_none j); few = λ k h. pow_pos (8 * k) }

spread_turn : (b r : ℕ) → Spread (b / 2) r → Spread b (256 * r + 255 * (b % 2))
spread_turn b r s = record { lanes = lane; few = few }
  where
    all_or_none : (d w : ℕ) → d < 2 → w < 8 → has (255 * d) w ≡ eqb d 1
    all_or_none zero w l h = has_none w
    all_or_none (suc zero) w l h = has_ones 8 w ∙ lt-ltb w 8 h
    all_or_none (suc (suc d)) w l h = absurd (omega arith)

    lane : (j w : ℕ) → w < 8 → has (256 * r + 255 * (b % 2)) (8 * j + w) ≡ has b j
    lane zero w h = first_lane r (255 * (b % 2)) w h ∙ all_or_none (b % 2) w (omega arith) h ∙ sym (has_zero b)
    lane (suc j) w h = next_lane r (255 * (b % 2)) j w (omega arith) ∙ s.lanes j w h ∙ sym (has_suc b j)

    few : (k : ℕ) → b < 2 ^ k → 256 * r + 255 * (b % 2) < 2 ^ (8 * k)
    few zero h = omega (arith, s.few 0 (omega arith))
    few (suc k) h =
        let e : k + 1 ≡ suc k = omega arith in
        subst (λ (n : ℕ). 256 * r + 255 * (b % 2) < 2 ^ (8 * n)) e (omega (arith, grown k, s.few k (omega (arith, pow2 k))))

spread_even : (h r : ℕ) → Spread h r → Spread (2 * h) (256 * r)
spread_even h r s =
    let e : h ≡ 2 * h / 2 = omega arith in
    let v : 256 * r + 255 * (2 * h % 2) ≡ 256 * r = omega arith in
    subst (Spread (2 * h)) v (spread_turn (2 * h) r (subst (λ (n : ℕ). Spread n r) e s))

spread_odd : (h r : ℕ) → Spread h r → Spread (2 * h + 1) (256 * r + 255)
spread_odd h r s =
    let e : h ≡ (2 * h + 1) / 2 = omega arith in
    let v : 256 * r + 255 * ((2 * h + 1) % 2) ≡ 256 * r + 255 = omega arith in
    subst (Spread (2 * h + 1)) v (spread_turn (2 * h + 1) r (subst (λ (n : ℕ). Spread n r) e s))

-- two entries a turn
abbrev pub Spreading : ℕ → List ℕ → List ℕ → Type 0
Spreading = Filled (λ b. SPREAD + b) Spread

pub spreads_two : (old new : List ℕ) (h r : ℕ) → Spreading (2 * h) old new → SPREAD + 2 * h + 1 < length old → Spread h r →
    Spreading (2 * (h + 1)) old (set (set new (SPREAD + 2 * h) (256 * r)) (SPREAD + 2 * h + 1) (256 * r + 255))
spreads_two old new h r f l s =
    filled_end _ _ _ _ _ (2 * h + 1 + 1) (omega arith) (omega arith)
    (filled_turn _ _ _ _ (2 * h + 1) _ _ (filled_turn _ _ _ _ (2 * h) _ _ f refl (omega arith) (λ v k e. omega arith) (spread_even h r s)) (omega arith) l (λ v k e. omega arith)
    (spread_odd h r s))

-- the first two, written before the loop
abbrev pub spreads_first : List ℕ → List ℕ
spreads_first l = set (set l SPREAD 0) (SPREAD + 1) 255

first_two : (l : List ℕ) → SPREAD + 1 < length l → Spreading 2 l (spreads_first l)
first_two l h = spreads_two l l 0 0 (filled_begin _ _ l) h spread_none

pub spreads_begin : (l : List ℕ) → SPREAD + 1 < length l → Spreading 2 (spreads_first l) (spreads_first l)
spreads_begin l h = record { size = refl; here = (first_two l h).here; other = λ j n. refl }

pub spreads_end : (old new : List ℕ) → SPREAD + 1 < length old → Spreading 256 (spreads_first old) new → Spreading 256 old new
spreads_end old new h r = record {
  size = r.size ∙ (first_two old h).size;
  here = r.here;
  other = λ j n. r.other j n ∙ (first_two old h).other j (λ v l e. n v (omega arith) e);
}

-- the entry of half a set leaves room for a lane
pub spread_fits : (old new : List ℕ) (h : ℕ) → Spreading (2 * h) old new → 1 ≤ h → h < 128 → at new (SPREAD + h) < 2 ^ 56
spread_fits old new h r l k = (r.here h (omega arith)).few 7 (omega arith)
