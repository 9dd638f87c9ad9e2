-- The first two that aren't closed (specs/Open). Assumes nothing.
use Rattle.model.specs.Kit.{◌≡◌, refl, sym, ap, ◌∙◌, subst, subst₂, Bool, true, false, not, ◌⊎◌, inl, inr, ⊎_elim, List, [], Memᴰ, ℕ, zero, suc, ◌+◌, ◌*◌, ◌/◌, ◌%◌, ◌≤◌, ◌<◌, mod-eq_of_lt}
use Rattle.model.specs.Kit.{mul-le-mul_right, arith, length, T, ltb, ltb-true, ltb-false, le-ltb}
use Rattle.model.specs.{Lists.any, Problem.Problem, Problem.symmetry_at}
use native.Mathlib.Nat.{mul-add-div_right, mul-add-mod_self_right, div-eq_of_lt, div-add-mod', div-lt_iff_lt-mul, mod-lt, add-zero}
use Rattle.families.specs.Families.{Makes, MovesNothing, Closed, makes, moves_nothing}
use Rattle.families.proofs.Closed.{makes_i, makes_e, nothing_i, nothing_e}
use Rattle.model.proofs.Lists.{of_T, T_of, either_e, either_l, either_r, any_e, any_i, mem_get_d, place_of, never}
use Rattle.model.proofs.Masks.{least_none, least_at, least_below, least_is}
use Rattle.families_closed.specs.Open.{made, first_missing, none, two, first_open, FirstOpen}
use Rattle.families_closed.specs.Inner.Claims.{OpenNone, OpenFirst}

pub not_false : (b : Bool) → not b ≡ false → b ≡ true
not_false true e = refl
not_false false e = absurd (subst T e tt)

pub not_true : (b : Bool) → not b ≡ true → b ≡ false
not_true true e = absurd (subst T (sym e) tt)
not_true false e = refl

some_of : (n k : ℕ) → k < n * n → 1 ≤ n
some_of zero k l = absurd (omega arith)
some_of (suc n) k l = omega arith

pub pair_parts : (n k : ℕ) → k < n * n → (1 ≤ n) × (k / n < n) × (k % n < n)
pair_parts n k l = let some = some_of n k l in (some, (div-lt_iff_lt-mul some).1 l, mod-lt k some)

module _ (p : Problem) where
  abbrev g : ℕ
  g = length p.symmetries

  abbrev Product : List ℕ → List ℕ → Type 0
  Product f h = ((k : List ℕ) × Memᴰ k p.symmetries × Makes p f h k) ⊎ MovesNothing p f h

  made_e : (a b : ℕ) → T (made p a b) → Product (symmetry_at p a) (symmetry_at p b)
  unfolding made
  made_e a b t =
      let f = symmetry_at p a in
      let h = symmetry_at p b in
      ⊎_elim {C = Product f h} (λ r. inr (nothing_e p f h r)) (λ r. let q = any_e (makes p f h) p.symmetries r in inl (q.0, q.1, makes_e p f h q.0 q.2))
      (either_e (moves_nothing p f h) (any (makes p f h) p.symmetries) t)

  made_i : (a b : ℕ) → Product (symmetry_at p a) (symmetry_at p b) → T (made p a b)
  unfolding made
  made_i a b r =
      let f = symmetry_at p a in
      let h = symmetry_at p b in
      ⊎_elim {C = T (made p a b)} (λ k. either_r (moves_nothing p f h) (any (makes p f h) p.symmetries) (any_i (makes p f h) p.symmetries k.0 k.1 (makes_i p f h k.0 k.2)))
      (λ k. either_l (moves_nothing p f h) (any (makes p f h) p.symmetries) (nothing_i p f h k)) r

  -- ---- pairs of symmetries by number
  pair_first : (c d : ℕ) → d < g → (c * g + d) / g ≡ c
  pair_first c d l = mul-add-div_right (let z : 1 ≤ g = omega arith in z) c d ∙ ap (λ (k : ℕ). c + k) (div-eq_of_lt l) ∙ add-zero c

  pair_second : (c d : ℕ) → d < g → (c * g + d) % g ≡ d
  pair_second c d l = mul-add-mod_self_right c g d ∙ mod-eq_of_lt l

  pair_below : (c d : ℕ) → c < g → d < g → c * g + d < g * g
  pair_below c d l k = let z : suc c * g ≤ g * g = mul-le-mul_right g l in omega arith

  -- the test of pair number k
  abbrev missing : ℕ → Bool
  missing k = not (made p (k / g) (k % g))

  made_below : (c d : ℕ) → c < g → d < g → c * g + d < first_missing p → T (made p c d)
  unfolding first_missing
  made_below c d l k h = subst₂ (λ (a b : ℕ). T (made p a b)) (pair_first c d k) (pair_second c d k)
      (T_of (made p ((c * g + d) / g) ((c * g + d) % g)) (not_false (made p ((c * g + d) / g) ((c * g + d) % g)) (least_below (g * g) missing (c * g + d) h)))

  -- none is missing: closed
  closed_of : g * g ≤ first_missing p → Closed p
  closed_of h f k i j =
      let a = place_of p.symmetries f [] i in
      let b = place_of p.symmetries k [] j in
      let l = pair_below a.0 b.0 a.1 b.1 in
      subst₂ Product a.2 b.2 (made_e a.0 b.0 (made_below a.0 b.0 a.1 b.1 (omega arith)))

  pub all_made : Closed p → (a b : ℕ) → a < length p.symmetries → b < length p.symmetries → T (made p a b)
  all_made closed a b l k = made_i a b (closed (symmetry_at p a) (symmetry_at p b) (mem_get_d p.symmetries a [] l) (mem_get_d p.symmetries b [] k))

  missing_none : Closed p → first_missing p ≡ g * g
  unfolding first_missing
  missing_none closed = least_none (g * g) missing (λ k l. go k l)
    where
      go : (k : ℕ) → k < g * g → missing k ≡ false
      go k l =
          let c = pair_parts g k l in
          ap not (of_T (made p (k / g) (k % g)) (all_made closed (k / g) (k % g) c.1 c.2))

  missing_at : first_missing p < g * g → missing (first_missing p) ≡ true
  unfolding first_missing
  missing_at h = least_is (g * g) missing h

  first_open_lem : first_missing p < g * g → FirstOpen p (first_missing p / g) (first_missing p % g)
  first_open_lem h = record {
    first = (pair_parts g m h).1;
    second = (pair_parts g m h).2;
    missing = not_true (made p (m / g) (m % g)) is;
    before = λ c d l k o. made_below c d l k (⊎_elim {C = c * g + d < m} (λ a. let z : suc c * g ≤ m / g * g = mul-le-mul_right g a in omega (arith, whole, k))
        (λ a. let z : c * g ≡ m / g * g = ap (λ (n : ℕ). n * g) a.0 in omega (arith, whole, a.1)) o);
  }
    where
      m : ℕ
      m = first_missing p

      whole : first_missing p / g * g + first_missing p % g ≡ first_missing p
      whole = div-add-mod' (first_missing p) g

      is : missing (first_missing p) ≡ true
      is = missing_at h

  -- ---- the loop over all pairs
  pub missing_found : (n k : ℕ) → n ≡ length p.symmetries → k < n * n → ((j : ℕ) → j < k → made p (j / n) (j % n) ≡ true) → made p (k / n) (k % n) ≡ false → k ≡ first_missing p
  unfolding first_missing
  missing_found n k e = subst (λ (m : ℕ). k < m * m → ((j : ℕ) → j < k → made p (j / m) (j % m) ≡ true) → made p (k / m) (k % m) ≡ false → k ≡ first_missing p) (sym e)
      (λ l h z. sym (least_at (g * g) missing k l (λ j i. ap not (h j i)) (ap not z)))

  pub missing_all : (n k : ℕ) → n ≡ length p.symmetries → k ≡ n * n → ((j : ℕ) → j < k → made p (j / n) (j % n) ≡ true) → k ≡ first_missing p
  unfolding first_missing
  missing_all n k e = subst (λ (m : ℕ). k ≡ m * m → ((j : ℕ) → j < k → made p (j / m) (j % m) ≡ true) → k ≡ first_missing p) (sym e)
      (λ l h. l ∙ sym (least_none (g * g) missing (λ j i. ap not (h j (omega arith)))))

pub open_none : OpenNone
unfolding first_open
open_none p = (
  λ e. closed_of p (go (ltb (first_missing p) (n * n)) refl e),
  λ c. ap (λ (b : Bool). elim b [ true ↦ two (first_missing p / n) (first_missing p % n) | false ↦ none ])
      (le-ltb (first_missing p) (n * n) (let z = missing_none p c in omega arith)),
)
  where
    n : ℕ
    n = length p.symmetries

    go : (b : Bool) → ltb (first_missing p) (n * n) ≡ b → elim b [ true ↦ two (first_missing p / n) (first_missing p % n) | false ↦ none ] ≡ none → n * n ≤ first_missing p
    go true q e = never (cc)
    go false q e = ltb-false (first_missing p) (n * n) q

pub open_first : OpenFirst
unfolding first_open
open_first p a b e = go (ltb (first_missing p) (n * n)) refl e
  where
    n : ℕ
    n = length p.symmetries

    go : (t : Bool) → ltb (first_missing p) (n * n) ≡ t → elim t [ true ↦ two (first_missing p / n) (first_missing p % n) | false ↦ none ] ≡ two a b → FirstOpen p a b
    go true q e = subst₂ (FirstOpen p) (let z : first_missing p / n ≡ a = cc in z) (let z : first_missing p % n ≡ b = cc in z) (first_open_lem p (ltb-true (first_missing p) (n * n) q))
    go false q e = never (cc)
