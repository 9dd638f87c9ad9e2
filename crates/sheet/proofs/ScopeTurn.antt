-- The turns of the loop over the scope of a constraint. Assumes nothing.
use Rattle.model.specs.Kit.{◌≡◌, refl, sym, ap, ap₂, ◌∙◌, subst, Bool, true, false, List, ℕ, zero, suc, ◌+◌, ◌*◌, ◌%◌, ◌^◌, ◌≤◌, ◌<◌, arith, not-suc-le-zero, mul-le-mul_right, bit_or, set, get_or, T}
use Rattle.model.specs.Kit.{ltb, ltb→lt, lt→ltb, eqb, eqb-true, eqb-false}
use Rattle.model.specs.{Lists.all, Lists.at, Lists.both, Lists.ascending, Sheet.word, Sheet.words}
use native.Mathlib.Nat.{pow-suc}
use Rattle.model.proofs.{Lists.both_i, Lists.both_l, Lists.both_r, Lists.of_T, Lists.not_of, Members.one_bit}
use Rattle.sheet.specs.Inner.Fill.{touch, touched, packed, least_at, ScopeAsked}
use Rattle.sheet.proofs.{Words.words_all_i, Words.words_all_e, Ascend.ascending_i, Ascend.ascending_e}

pub touch_is : (k x : ℕ) (l : List ℕ) → k < 64 → set l x (bit_or (get_or l x 0) (1 * 2 ^ k % 2 ^ 64)) ≡ touch k x l
unfolding touch at
touch_is k x l h = ap (λ (u : ℕ). set l x (bit_or (get_or l x 0) u)) (one_bit 64 k h)

-- the first i variables of the scope were read
pub record ScopeTo (b : List ℕ) (from a n k : ℕ) (old : List ℕ) (i : ℕ) (new : List ℕ) (pack unit least : ℕ) : Type 0 where
  pub power : unit ≡ 256 ^ suc i
  pub packs : pack ≡ packed b from a i
  pub small : pack < unit
  pub floor : least ≡ least_at b from i
  pub fits : (j : ℕ) → j < i → word b (from + 2 * j) < n
  pub rises : (j : ℕ) → suc j < i → word b (from + 2 * j) < word b (from + 2 * suc j)
  pub stored : new ≡ touched b from k i old

pub scope_none : (b : List ℕ) (from a n k : ℕ) (old : List ℕ) → a ≤ 3 → ScopeTo b from a n k old 0 old a 256 0
unfolding packed least_at touched
scope_none b from a n k old l =
    record {
      power = refl;
      packs = refl;
      small = omega arith;
      floor = refl;
      fits = λ j h. absurd (not-suc-le-zero h);
      rises = λ j h. absurd (not-suc-le-zero h);
      stored = refl;
    }

-- a unit times a variable
pub part : (x unit : ℕ) → x < 12 → x * unit ≤ 11 * unit
part x unit l = mul-le-mul_right unit (let h : x ≤ 11 = omega arith in h)

pub unit_small : (i unit : ℕ) → i < 3 → unit ≡ 256 ^ suc i → unit ≤ 16777216
unit_small zero unit l e = omega arith
unit_small (suc zero) unit l e = omega arith
unit_small (suc (suc zero)) unit l e = omega arith
unit_small (suc (suc (suc i))) unit l e = absurd (omega arith)

module _ (b : List ℕ) (from a n k : ℕ) (old : List ℕ) (i : ℕ) (new : List ℕ) (pack unit least : ℕ) (t : ScopeTo b from a n k old i new pack unit least)
    (x : ℕ) (e : x ≡ word b (from + 2 * i)) where
  -- the variable before, where there is one
  after : (j : ℕ) → suc j ≡ i → least ≡ word b (from + 2 * j) + 1
  unfolding least_at
  after j q = t.floor ∙ ap (least_at b from) (sym q)

  pub scope_more : (next : List ℕ) → next ≡ touch k x new → least ≤ x → x < n → n ≤ 12 → ScopeTo b from a n k old (i + 1) next (pack + x * unit) (unit * 256) (x + 1)
  unfolding packed least_at touched
  scope_more next en l m f =
      let z : suc i ≡ i + 1 = omega arith in
      record {
        power = (let p : 256 ^ suc (suc i) ≡ 256 ^ suc i * 256 = pow-suc 256 (suc i) in let q : unit * 256 ≡ 256 ^ suc (suc i) = omega (arith, t.power) in q ∙ ap (λ (j : ℕ). 256 ^ suc j) z);
        packs = ap₂ (λ (y : ℕ) (v : ℕ). y + v * unit) t.packs e ∙ ap (λ (u : ℕ). packed b from a i + word b (from + 2 * i) * u) t.power ∙ ap (packed b from a) z;
        small = omega (arith, t.small, part x unit (omega arith));
        floor = ap (λ (v : ℕ). v + 1) e ∙ ap (least_at b from) z;
        fits = λ j q. below j q (eqb j i) refl;
        rises = λ j q. steps j q (eqb (suc j) i) refl;
        stored = en ∙ ap₂ (λ (y : ℕ) (v : List ℕ). touch k y v) e t.stored ∙ ap (λ (j : ℕ). touched b from k j old) z;
      }
    where
      below : (j : ℕ) → j < i + 1 → (s : Bool) → eqb j i ≡ s → word b (from + 2 * j) < n
      below j q true r = subst (λ (v : ℕ). v < n) (e ∙ ap (λ (v : ℕ). word b (from + 2 * v)) (sym (eqb-true j i r))) m
      below j q false r = let d : j ≡ i → ⊥ = eqb-false j i r in t.fits j (omega arith)

      steps : (j : ℕ) → suc j < i + 1 → (s : Bool) → eqb (suc j) i ≡ s → word b (from + 2 * j) < word b (from + 2 * suc j)
      steps j q true r =
          let y : suc j ≡ i = eqb-true (suc j) i r in
          let u : word b (from + 2 * suc j) ≡ x = ap (λ (v : ℕ). word b (from + 2 * v)) y ∙ sym e in
          omega (arith, after j y)
      steps j q false r = let d : suc j ≡ i → ⊥ = eqb-false (suc j) i r in t.rises j (omega arith)

  none : i ≡ 0 → least ≡ 0
  unfolding least_at
  none q = t.floor ∙ ap (least_at b from) q

  falls : (j : ℕ) → suc j ≡ i → x < least → word b (from + 2 * j) < word b (from + 2 * suc j) → ⊥
  falls j q l h = (let u : word b (from + 2 * suc j) ≡ x = ap (λ (v : ℕ). word b (from + 2 * v)) q ∙ sym e in omega (arith, after j q))

  pub scope_low : i < a → x < least → ScopeAsked b from a n k old new false
  unfolding words
  scope_low m l =
      record {
        answers = sym (not_of (both (all (λ y. ltb y n) (words b from a)) (ascending (words b from a)))
            (λ s. go i refl (ascending_e (λ j. word b (from + 2 * j)) a (both_r (all (λ y. ltb y n) (words b from a)) (ascending (words b from a)) s))));
        stored = λ q. absurd (subst T (sym q) tt);
      }
    where
      go : (j : ℕ) → j ≡ i → ((h : ℕ) → suc h < a → word b (from + 2 * h) < word b (from + 2 * suc h)) → ⊥
      go zero q s = not-suc-le-zero (subst (λ (v : ℕ). x < v) (none (sym q)) l)
      go (suc j) q s = falls j q l (s j (omega arith))

  pub scope_high : i < a → n ≤ x → ScopeAsked b from a n k old new false
  scope_high m l =
      record {
        answers = sym (not_of (both (all (λ y. ltb y n) (words b from a)) (ascending (words b from a)))
            (λ s. let q = ltb→lt (word b (from + 2 * i)) n (words_all_e (λ y. ltb y n) b from a (both_l (all (λ y. ltb y n) (words b from a)) (ascending (words b from a)) s) i m) in omega arith));
        stored = λ q. absurd (subst T (sym q) tt);
      }

pub scope_end : (b : List ℕ) (from a n k : ℕ) (old : List ℕ) (i : ℕ) (new : List ℕ) (pack unit least : ℕ) → ScopeTo b from a n k old i new pack unit least → a ≤ i → i ≤ a →
    ScopeAsked b from a n k old (set new (32 + k) pack) true
unfolding words
scope_end b from a n k old i new pack unit least t l m =
    let e : i ≡ a = omega arith in
    record {
      answers = sym (of_T (both (all (λ y. ltb y n) (words b from a)) (ascending (words b from a)))
          (both_i (all (λ y. ltb y n) (words b from a)) (ascending (words b from a))
          (words_all_i (λ y. ltb y n) b from a (λ j h. lt→ltb (word b (from + 2 * j)) n (t.fits j (omega arith))))
          (ascending_i (λ j. word b (from + 2 * j)) a (λ j h. t.rises j (omega arith)))));
      stored = λ q. ap₂ (λ (y : List ℕ) (v : ℕ). set y (32 + k) v) (t.stored ∙ ap (λ (j : ℕ). touched b from k j old) e) (t.packs ∙ ap (packed b from a) e);
    }
