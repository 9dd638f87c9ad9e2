-- What the scopes leave in the numbers. Assumes nothing.
use Rattle.model.specs.Kit.{◌≡◌, refl, sym, ap, ap₂, ◌∙◌, subst, Bool, true, false, List, ℕ, zero, suc, ◌+◌, ◌*◌, ◌/◌, ◌%◌, ◌^◌, ◌≤◌, ◌<◌, arith, not-suc-le-zero, lt_of_lt_of_le, bit_or, or_lt}
use Rattle.model.specs.Kit.{pow-lt}
use Rattle.model.specs.Kit.{T, eqb, ltb, length, set, length-set, eqb-true, eqb-false, lt-ltb, le-ltb, ltb-true, ltb-false}
use Rattle.model.specs.{Lists.at, Lists.both, Lists.either, Lists.any, Lists.ascending, ValueSets.has, Sheet.word, Sheet.words, Sheet.scope_at}
use lib.Pow.{pow_mono}
use Rattle.model.proofs.{Lists.at_set, Lists.at_set_other, Lists.both_true, Lists.both_false, Masks.has_or, Masks.has_one, Members.either_no}
use Rattle.arrays.specs.Inner.Places.{NUMBERS}
use Rattle.sheet.specs.{Inner.Fill.touch, Inner.Fill.touched, Inner.Fill.packed, Inner.Fill.row_fits, Inner.Steps.offset_at, Inner.Steps.numbers_to}
use Rattle.sheet.proofs.Any.{either_assoc, any_more, any_none}

split : (a b c d : Bool) → either (either a (both b c)) (both b d) ≡ either a (both b (either c d))
split true b c d = refl
split false true c d = refl
split false false c d = refl

-- what a touch does to the set of constraints of variable y
touch_at : (k x y j : ℕ) (l : List ℕ) → x < length l → has (at (touch k x l) y) j ≡ either (has (at l y) j) (both (eqb j k) (eqb y x))
unfolding touch
touch_at k x y j l h = go (eqb y x) refl
  where
    go : (t : Bool) → eqb y x ≡ t → has (at (set l x (bit_or (at l x) (2 ^ k))) y) j ≡ either (has (at l y) j) (both (eqb j k) t)
    go true e =
        let q : y ≡ x = eqb-true y x e in
        ap (λ (z : ℕ). has (at (set l x (bit_or (at l x) (2 ^ k))) z) j) q ∙ ap (λ (s : ℕ). has s j) (at_set l x (bit_or (at l x) (2 ^ k)) h)
        ∙ has_or (at l x) (2 ^ k) j ∙ ap₂ either (ap (λ (z : ℕ). has (at l z) j) (sym q)) (has_one k j ∙ sym (both_true (eqb j k)))
    go false e =
        ap (λ (s : ℕ). has s j) (at_set_other l x (bit_or (at l x) (2 ^ k)) y (eqb-false y x e))
        ∙ sym (ap (either (has (at l y) j)) (both_false (eqb j k)) ∙ either_no (has (at l y) j))

touch_small : (k x y : ℕ) (l : List ℕ) → at l y < 2 ^ suc k → at l x < 2 ^ suc k → x < length l → at (touch k x l) y < 2 ^ suc k
unfolding touch
touch_small k x y l p q h = go (eqb y x) refl
  where
    go : (t : Bool) → eqb y x ≡ t → at (set l x (bit_or (at l x) (2 ^ k))) y < 2 ^ suc k
    go true e =
        subst (λ (s : ℕ). s < 2 ^ suc k) (sym (ap (at (set l x (bit_or (at l x) (2 ^ k)))) (eqb-true y x e) ∙ at_set l x (bit_or (at l x) (2 ^ k)) h))
        (or_lt (suc k) (at l x) (2 ^ k) q (pow-lt (let z : k < suc k = omega arith in z)))
    go false e = subst (λ (s : ℕ). s < 2 ^ suc k) (sym (at_set_other l x (bit_or (at l x) (2 ^ k)) y (eqb-false y x e))) p

-- variables below 16
module _ (b : List ℕ) (from k a : ℕ) (small : (j : ℕ) → j < a → word b (from + 2 * j) < 16) (l : List ℕ) (long : 16 ≤ length l) where
  touched_length : (i : ℕ) → length (touched b from k i l) ≡ length l
  unfolding touched touch
  touched_length zero = refl
  touched_length (suc i) = length-set (touched b from k i l) (word b (from + 2 * i)) _ ∙ touched_length i

  within : (i : ℕ) → i < a → word b (from + 2 * i) < length (touched b from k i l)
  within i h = omega (arith, small i h, touched_length i)

  touched_at : (i : ℕ) → i ≤ a → (y j : ℕ) → has (at (touched b from k i l) y) j ≡ either (has (at l y) j) (both (eqb j k) (any (eqb y) (words b from i)))
  unfolding touched words
  touched_at zero h y j =
      sym (ap (λ (t : Bool). either (has (at l y) j) (both (eqb j k) t)) (any_none (eqb y) (λ i. word b (from + 2 * i)))
      ∙ ap (either (has (at l y) j)) (both_false (eqb j k)) ∙ either_no (has (at l y) j))
  touched_at (suc i) h y j =
      touch_at k (word b (from + 2 * i)) y j (touched b from k i l) (within i (omega arith))
      ∙ ap (λ (t : Bool). either t (both (eqb j k) (eqb y (word b (from + 2 * i))))) (touched_at i (omega arith) y j)
      ∙ split (has (at l y) j) (eqb j k) (any (eqb y) (words b from i)) (eqb y (word b (from + 2 * i)))
      ∙ ap (λ (t : Bool). either (has (at l y) j) (both (eqb j k) t)) (sym (any_more (eqb y) (λ i. word b (from + 2 * i)) i))

  touched_small : (i : ℕ) → i ≤ a → ((y : ℕ) → y < 16 → at l y < 2 ^ suc k) → (y : ℕ) → y < 16 → at (touched b from k i l) y < 2 ^ suc k
  unfolding touched
  touched_small zero h s y m = s y m
  touched_small (suc i) h s y m =
      touch_small k (word b (from + 2 * i)) y (touched b from k i l) (touched_small i (omega arith) s y m) (touched_small i (omega arith) s (word b (from + 2 * i)) (small i (omega arith)))
      (within i (omega arith))

  touched_high : (i : ℕ) → i ≤ a → (y : ℕ) → 16 ≤ y → at (touched b from k i l) y ≡ at l y
  unfolding touched touch
  touched_high zero h y m = refl
  touched_high (suc i) h y m =
      at_set_other (touched b from k i l) (word b (from + 2 * i)) _ y (λ e. (let q = small i (omega arith) in omega arith)) ∙ touched_high i (omega arith) y m

-- ---- the arity and the scope in one number
module _ (b : List ℕ) (from : ℕ) where
  -- of one, two and three variables
  pub packed_arity : (a : ℕ) → a ≤ 3 → packed b from a a % 256 ≡ a
  unfolding packed
  packed_arity zero h = refl
  packed_arity (suc zero) h = omega arith
  packed_arity (suc (suc zero)) h = omega arith
  packed_arity (suc (suc (suc zero))) h = omega arith
  packed_arity (suc (suc (suc (suc a)))) h = absurd (omega arith)

  pub packed_at : (a i : ℕ) → a ≤ 3 → i < a → ((j : ℕ) → j < a → word b (from + 2 * j) < 256) → packed b from a a / 256 ^ suc i % 256 ≡ word b (from + 2 * i)
  unfolding packed
  packed_at zero i h l s = absurd (not-suc-le-zero l)
  packed_at (suc zero) zero h l s = omega (arith, s 0 (omega arith))
  packed_at (suc zero) (suc i) h l s = absurd (omega arith)
  packed_at (suc (suc zero)) zero h l s = omega (arith, s 0 (omega arith), s 1 (omega arith))
  packed_at (suc (suc zero)) (suc zero) h l s = omega (arith, s 0 (omega arith), s 1 (omega arith))
  packed_at (suc (suc zero)) (suc (suc i)) h l s = absurd (omega arith)
  packed_at (suc (suc (suc zero))) zero h l s = omega (arith, s 0 (omega arith), s 1 (omega arith), s 2 (omega arith))
  packed_at (suc (suc (suc zero))) (suc zero) h l s = omega (arith, s 0 (omega arith), s 1 (omega arith), s 2 (omega arith))
  packed_at (suc (suc (suc zero))) (suc (suc zero)) h l s = omega (arith, s 0 (omega arith), s 1 (omega arith), s 2 (omega arith))
  packed_at (suc (suc (suc zero))) (suc (suc (suc i))) h l s = absurd (omega arith)
  packed_at (suc (suc (suc (suc a)))) i h l s = absurd (omega arith)

-- ---- one constraint more, and all
-- what a constraint at an offset has passed
pub record Good (b : List ℕ) (n d o : ℕ) : Type 0 where
  pub some : 1 ≤ word b o
  pub few : word b o ≤ 3
  pub scoped : (j : ℕ) → j < word b o → word b (o + 4 + 2 * j) < n
  pub ordered : T (ascending (scope_at b o))
  pub valued : (i : ℕ) → i < word b (o + 2) → T (row_fits b (o + 4 + 2 * word b o) (word b o) d i)

-- the numbers hold the first k constraints, and are otherwise as they were
pub record Held (b : List ℕ) (o k : ℕ) (l new : List ℕ) : Type 0 where
  pub sized : length new ≡ length l
  pub touching : (x j : ℕ) → x < 16 → has (at new x) j ≡ either (has (at l x) j) (both (ltb j k) (any (eqb x) (scope_at b (offset_at b o j))))
  pub touching_few : (x : ℕ) → x < 16 → at new x < 2 ^ k
  pub kept : (i : ℕ) → 16 ≤ i → i < 32 → at new i ≡ at l i
  pub packs : (j : ℕ) → j < k → at new (32 + j) ≡ packed b (offset_at b o j + 4) (word b (offset_at b o j)) (word b (offset_at b o j))
  pub rest : (i : ℕ) → 32 + k ≤ i → at new i ≡ at l i

below_next : (j k : ℕ) (p : Bool) → either (both (ltb j k) p) (both (eqb j k) p) ≡ both (ltb j (suc k)) p
below_next j k p = go (ltb j k) refl (eqb j k) refl
  where
    go : (s : Bool) → ltb j k ≡ s → (t : Bool) → eqb j k ≡ t → either (both s p) (both t p) ≡ both (ltb j (suc k)) p
    go true e t q = flip p t ∙ sym (ap (λ (r : Bool). both r p) (lt-ltb j (suc k) (let h : j < k = ltb-true j k e in omega arith)))
      where
        flip : (p t : Bool) → either p (both t p) ≡ p
        flip true t = refl
        flip false t = both_false t
    go false e true q = sym (ap (λ (r : Bool). both r p) (lt-ltb j (suc k) (let h : j ≡ k = eqb-true j k q in omega arith)))
    go false e false q = sym (ap (λ (r : Bool). both r p) (le-ltb j (suc k) (let h : k ≤ j = ltb-false j k e in let n : j ≡ k → ⊥ = eqb-false j k q in omega arith)))

-- at the constraint itself the scope is its own
own : (j k : ℕ) (f : ℕ → Bool) → both (eqb j k) (f k) ≡ both (eqb j k) (f j)
own j k f = go (eqb j k) refl
  where
    go : (t : Bool) → eqb j k ≡ t → both t (f k) ≡ both t (f j)
    go true e = ap f (sym (eqb-true j k e))
    go false e = refl

module _ (b : List ℕ) (n d o c : ℕ) (n16 : n ≤ 16) (good : (j : ℕ) → j < c → Good b n d (offset_at b o j)) (l : List ℕ) (long : length l ≡ NUMBERS) (c32 : c ≤ 32)
    (blank : (x : ℕ) → x < 16 → at l x ≡ 0) where
  pub held : (k : ℕ) → k ≤ c → Held b o k l (numbers_to b o k l)
  unfolding numbers_to scope_at
  held zero h =
      record {
        sized = refl;
        touching = λ x j m. sym (ap (λ (t : Bool). either (has (at l x) j) (both t (any (eqb x) (scope_at b (offset_at b o j))))) (le-ltb j 0 (omega arith)) ∙ either_no (has (at l x) j));
        touching_few = λ x m. (let q = blank x m in omega arith);
        kept = λ i p q. refl;
        packs = λ j m. absurd (not-suc-le-zero m);
        rest = λ i p. refl;
      }
  held (suc k) h = more (held k (omega arith))
    where
      q : ℕ
      q = offset_at b o k

      a : ℕ
      a = word b q

      m : List ℕ
      m = numbers_to b o k l

      p : ℕ
      p = packed b (q + 4) a a

      more : Held b o k l m → Held b o (suc k) l (set (touched b (q + 4) k a m) (32 + k) p)
      more t =
          let small : (j : ℕ) → j < a → word b (q + 4 + 2 * j) < 16 = λ j z. (let w = (good k (omega arith)).scoped j z in omega arith) in
          let room : 16 ≤ length m = omega (arith, t.sized) in
          let e : length (touched b (q + 4) k a m) ≡ length m = touched_length b (q + 4) k a small m room a in
          record {
            sized = length-set (touched b (q + 4) k a m) (32 + k) p ∙ e ∙ t.sized;
            touching = λ x j z.
                ap (λ (s : ℕ). has s j) (at_set_other (touched b (q + 4) k a m) (32 + k) p x (λ w. omega arith))
                ∙ touched_at b (q + 4) k a small m room a (omega arith) x j
                ∙ ap₂ either (t.touching x j z) (own j k (λ i. any (eqb x) (scope_at b (offset_at b o i))))
                ∙ either_assoc (has (at l x) j) (both (ltb j k) (any (eqb x) (scope_at b (offset_at b o j)))) (both (eqb j k) (any (eqb x) (scope_at b (offset_at b o j))))
                ∙ ap (either (has (at l x) j)) (below_next j k (any (eqb x) (scope_at b (offset_at b o j))));
            touching_few = λ x z.
                subst (λ (s : ℕ). s < 2 ^ suc k) (sym (at_set_other (touched b (q + 4) k a m) (32 + k) p x (λ w. omega arith)))
                (touched_small b (q + 4) k a small m room a (omega arith) (λ y v. lt_of_lt_of_le (t.touching_few y v) (pow_mono (let u : k ≤ suc k = omega arith in u))) x z);
            kept = λ i u v. at_set_other (touched b (q + 4) k a m) (32 + k) p i (λ w. omega arith) ∙ touched_high b (q + 4) k a small m room a (omega arith) i u ∙ t.kept i u v;
            packs = λ j z. slot small room t j z (eqb j k) refl;
            rest = λ i u. at_set_other (touched b (q + 4) k a m) (32 + k) p i (λ w. omega arith) ∙ touched_high b (q + 4) k a small m room a (omega arith) i (omega arith) ∙ t.rest i (omega arith);
          }
        where
          slot : ((j : ℕ) → j < a → word b (q + 4 + 2 * j) < 16) → 16 ≤ length m → Held b o k l m → (j : ℕ) → j < suc k → (s : Bool) → eqb j k ≡ s →
              at (set (touched b (q + 4) k a m) (32 + k) p) (32 + j) ≡ packed b (offset_at b o j + 4) (word b (offset_at b o j)) (word b (offset_at b o j))
          slot small room t j z true w =
              let v : j ≡ k = eqb-true j k w in
              ap (λ (i : ℕ). at (set (touched b (q + 4) k a m) (32 + k) p) (32 + i)) v
              ∙ at_set (touched b (q + 4) k a m) (32 + k) p (omega (arith, touched_length b (q + 4) k a small m room a, t.sized))
              ∙ ap (λ (i : ℕ). packed b (offset_at b o i + 4) (word b (offset_at b o i)) (word b (offset_at b o i))) (sym v)
          slot small room t j z false w =
              let v : j ≡ k → ⊥ = eqb-false j k w in
              at_set_other (touched b (q + 4) k a m) (32 + k) p (32 + j) (λ u. v (omega arith))
              ∙ touched_high b (q + 4) k a small m room a (omega arith) (32 + j) (omega arith) ∙ t.packs j (omega arith)
