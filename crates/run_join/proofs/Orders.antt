-- Tests of all numbers below a number, and the shape of a path. Assumes nothing.
use Rattle.model.specs.Kit.{◌≡◌, refl, sym, ap, ◌∙◌, Bool, true, false, List, ℕ, ◌+◌, ◌-◌, ◌≤◌, ◌<◌, arith, eqb, ltb, leb, eq-eqb, eqb-true}
use Rattle.model.specs.Kit.{le-ltb, ltb-false, le-leb, lt-leb, leb-true}
use Rattle.model.specs.Lists.{all, at, below, up_from, both, either}
use Rattle.model.proofs.Lists.{T_of, of_T, TExt, all_i, all_e, below_i, below_e, up_from_i, up_from_e, both_yes, both_second}
use Rattle.run_join.specs.Join.{path_shaped}

-- ---- tests of all numbers below n
module _ (p : ℕ → Bool) (n : ℕ) where
  pub all_below : ((k : ℕ) → k < n → p k ≡ true) → all p (below n) ≡ true
  all_below h = of_T (all p (below n)) (all_i p (below n) (λ k m. T_of (p k) (h k (below_e n k m))))

  pub each_below : all p (below n) ≡ true → (k : ℕ) → k < n → p k ≡ true
  each_below e k l = of_T (p k) (all_e p (below n) (T_of (all p (below n)) e) k (below_i n k l))

pub both_first : (a b : Bool) → both a b ≡ true → a ≡ true
both_first true b e = refl
both_first false b e = e

-- ---- a path's shape
module _ (l : List ℕ) (o : ℕ) where
  abbrev pub behind : ℕ → Bool
  behind i = either (ltb i (at l o)) (eqb (at l (o + 1 + i)) 0)

  zero_or : (a b : Bool) → a ≡ false → either a b ≡ b
  zero_or a b e = ap (λ (x : Bool). either x b) e

  either_yes : (a b : Bool) → (a ≡ false → b ≡ true) → either a b ≡ true
  either_yes true b f = refl
  either_yes false b f = f refl

  pub shaped_long : 12 < at l o → path_shaped l o ≡ false
  unfolding path_shaped
  shaped_long h = ap (λ (x : Bool). both x (all behind (below 12))) (lt-leb (at l o) 12 h)

  module _ (so : path_shaped l o ≡ true) where
    pub short : at l o ≤ 12
    unfolding path_shaped
    short = leb-true (at l o) 12 (both_first (leb (at l o) 12) (all behind (below 12)) so)

    pub zeros : (k : ℕ) → k < 12 → at l o ≤ k → at l (o + 1 + k) ≡ 0
    unfolding path_shaped
    zeros k i h =
        eqb-true (at l (o + 1 + k)) 0
        (sym (zero_or (ltb k (at l o)) (eqb (at l (o + 1 + k)) 0) (le-ltb k (at l o) h)) ∙ each_below behind 12 (both_second (leb (at l o) 12) (all behind (below 12)) so) k i)

  -- the values from the length on are zeros
  pub shaped_zeros : at l o ≤ 12 → all (λ i. eqb (at l (o + 1 + i)) 0) (up_from (at l o) (12 - at l o)) ≡ path_shaped l o
  unfolding path_shaped
  shaped_zeros h = TExt (all zero_at places) (path_shaped l o)
      (λ t. T_of (path_shaped l o) (both_yes (leb (at l o) 12) (all behind (below 12)) (le-leb (at l o) 12 h)
      (all_below behind 12 (λ k i. either_yes (ltb k (at l o)) (zero_at k) (λ f. of_T (zero_at k) (all_e zero_at places t k (up_from_i (at l o) (12 - at l o) k (ltb-false k (at l o) f)
      (omega arith))))))))
      (λ t. all_i zero_at places (λ k m. let b = up_from_e (at l o) (12 - at l o) k m in T_of (zero_at k) (eq-eqb (at l (o + 1 + k)) 0 (zeros (of_T (path_shaped l o) t) k (omega arith) b.0))))
    where
      zero_at : ℕ → Bool
      zero_at i = eqb (at l (o + 1 + i)) 0

      places : List ℕ
      places = up_from (at l o) (12 - at l o)
