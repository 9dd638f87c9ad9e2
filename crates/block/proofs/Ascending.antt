-- Rows in reading order: the test shows it between any two rows, and as many rows as there are, in order, are all of them. Assumes nothing.
use Rattle.model.specs.Kit.{◌≡◌, refl, sym, ap₂, ◌∙◌, subst, Bool, true, false, List, [], ◌∷◌, Memᴰ, Memᴰ-head, Memᴰ-tail, Memᴰ-not_nil, ℕ, ◌≤◌, not-suc-le-zero, le_of_suc-le-suc}
use Rattle.model.specs.Kit.{T, length}
use Rattle.model.specs.Lists.{earlier, rows_ascend}
use Rattle.model.proofs.Lists.{T_of, earlier_trans, Sorted}

pub rows_ascend_sorted : (l : List (List ℕ)) → T (rows_ascend l) → Sorted (λ (x y : List ℕ). T (earlier x y)) l
unfolding rows_ascend
rows_ascend_sorted [] t = tt
rows_ascend_sorted (x ∷ []) t = (λ y m. absurd (Memᴰ-not_nil m), tt)
rows_ascend_sorted (x ∷ y ∷ l) t = go (rows_ascend_sorted (y ∷ l)) (earlier x y) refl t
  where
    go : (T (rows_ascend (y ∷ l)) → Sorted (λ (x y : List ℕ). T (earlier x y)) (y ∷ l)) → (b : Bool) → earlier x y ≡ b → T (elim b [ true ↦ rows_ascend (y ∷ l) | false ↦ false ]) → Sorted
        (λ (x y : List ℕ). T (earlier x y)) (x ∷ y ∷ l)
    go ih true e t = let s = ih t in (first (T_of (earlier x y) e) s.0, s)
      where
        first : T (earlier x y) → ((z : List ℕ) → Memᴰ z l → T (earlier y z)) → (z : List ℕ) → Memᴰ z (y ∷ l) → T (earlier x z)
        first h k z (Memᴰ-head q) = subst (λ (r : List ℕ). T (earlier x r)) (sym q) h
        first h k z (Memᴰ-tail m) = earlier_trans x y z h (k z m)
    go ih false e t = absurd t

module _ {A : Type 0} where
  -- a list in a strict order whose members are among those of another, and that is no shorter, is the other
  pub sorted_all : (R : A → A → Type 0) → ((x y : A) → R x y → R y x → ⊥) → (l m : List A) → Sorted R l → Sorted R m → ((x : A) → Memᴰ x l → Memᴰ x m) → length m ≤ length l → l ≡ m
  sorted_all R a [] [] s t f n = refl
  sorted_all R a [] (y ∷ m) s t f n = absurd (not-suc-le-zero n)
  sorted_all R a (x ∷ l) [] s t f n = absurd (Memᴰ-not_nil (f x (Memᴰ-head refl)))
  sorted_all R a (x ∷ l) (y ∷ m) s t f n =
      let e : l ≡ m = sorted_all R a l m s.1 t.1 (λ z i. later z i (f z (Memᴰ-tail i))) (le_of_suc-le-suc n) in
      ap₂ (λ (z : A) (r : List A). z ∷ r) (heads e (f x (Memᴰ-head refl))) e
    where
      never : (z : A) → R z z → ⊥
      never z r = a z z r r

      above : (z : A) → z ≡ y → R x z → Memᴰ x (y ∷ m) → ⊥
      above z q r (Memᴰ-head e) = never z (subst (λ (u : A). R u z) (e ∙ sym q) r)
      above z q r (Memᴰ-tail i) = a y x (t.0 x i) (subst (R x) q r)

      later : (z : A) → Memᴰ z l → Memᴰ z (y ∷ m) → Memᴰ z m
      later z i (Memᴰ-head q) = absurd (above z q (s.0 z i) (f x (Memᴰ-head refl)))
      later z i (Memᴰ-tail j) = j

      heads : l ≡ m → Memᴰ x (y ∷ m) → x ≡ y
      heads e (Memᴰ-head q) = q
      heads e (Memᴰ-tail i) = absurd (never x (s.0 x (subst (Memᴰ x) (sym e) i)))
