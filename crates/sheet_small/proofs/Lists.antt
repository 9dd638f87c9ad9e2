-- Laws of numbers in turn: a test of all of them, and lists that are mapped. Assumes nothing.
use Rattle.model.specs.Kit.{◌≡◌, refl, sym, ap, ap₂, ◌∙◌, Bool, true, false, List, [], ◌∷◌, map, ℕ, zero, suc, ◌+◌, ◌<◌, arith, T, drop, get_or}
use Rattle.model.specs.Lists.{all, keep, up_from, below}
use native.Mathlib.Nat.{add-zero, zero-add}
use Rattle.model.proofs.Lists.{T_of, all_e, below_i}

-- a test that holds of all numbers below n
pub tested : (p : ℕ → Bool) (n : ℕ) → all p (below n) ≡ true → (i : ℕ) → i < n → T (p i)
tested p n e i h = all_e p (below n) (T_of (all p (below n)) e) i (below_i n i h)

module _ {A : Type 0} where
  -- k numbers from a on, as those below k
  pub from_below : (f : ℕ → A) (a k : ℕ) → map f (up_from a k) ≡ map (λ j. f (a + j)) (below k)
  unfolding below up_from
  from_below f a k = go a 0 k (add-zero a)
    where
      go : (b c k : ℕ) → a + c ≡ b → map f (up_from b k) ≡ map (λ j. f (a + j)) (up_from c k)
      go b c zero e = refl
      go b c (suc k) e = let n : a + suc c ≡ suc b = omega arith in ap₂ (λ (x : A) (l : List A). x ∷ l) (ap f (sym e)) (go (suc b) (suc c) k n)

  same_from : (f g : ℕ → A) (a k j : ℕ) → map f (up_from a k) ≡ map g (up_from a k) → j < k → f (a + j) ≡ g (a + j)
  unfolding up_from
  same_from f g a zero j e h = absurd (omega arith)
  same_from f g a (suc k) zero e h = let z : a + 0 ≡ a = add-zero a in ap f z ∙ ap (λ (l : List A). get_or l 0 (f a)) e ∙ sym (ap g z)
  same_from f g a (suc k) (suc j) e h = let z : a + suc j ≡ suc a + j = omega arith in ap f z ∙ same_from f g (suc a) k j (ap (drop 1) e) (omega arith) ∙ sym (ap g z)

  -- lists that are equal, element by element
  pub same_below : (f g : ℕ → A) (k : ℕ) → map f (below k) ≡ map g (below k) → (i : ℕ) → i < k → f i ≡ g i
  unfolding below
  same_below f g k e i h = let z : 0 + i ≡ i = zero-add i in ap f (sym z) ∙ same_from f g 0 k i e h ∙ ap g z

  pub keep_map : (p : A → Bool) (f : ℕ → A) (l : List ℕ) → keep p (map f l) ≡ map f (keep (λ x. p (f x)) l)
  unfolding keep
  keep_map p f [] = refl
  keep_map p f (x ∷ l) = go (p (f x)) (keep_map p f l)
    where
      go : (t : Bool) → keep p (map f l) ≡ map f (keep (λ x. p (f x)) l) → elim t [ true ↦ f x ∷ keep p (map f l) | false ↦ keep p (map f l) ] ≡ map f
          (elim t [ true ↦ x ∷ keep (λ x. p (f x)) l | false ↦ keep (λ x. p (f x)) l ])
      go true e = ap (λ (r : List A). f x ∷ r) e
      go false e = e
