-- The first number that passes a test (`least`). Assumes nothing.
use Rattle.model.specs.Kit.{◌≡◌, refl, sym, ap, ◌∙◌, subst, Bool, true, false, ℕ, zero, suc, ◌≤◌, ◌<◌, arith, T, ltb, ltb-true, ltb-false}
use Rattle.model.specs.ValueSets.{least, least_step}

-- the number up to which none passes, and which passes itself where it is below n
pub first_is : (p : ℕ → Bool) (n i : ℕ) → i ≤ n → ((j : ℕ) → j < i → p j ≡ false) → (i < n → p i ≡ true) → least n p ≡ i
unfolding least
first_is p zero i h below here = omega arith
first_is p (suc n) zero h below here = ap (λ (b : Bool). least_step b (least n (λ j. p (suc j)))) (here (omega arith))
first_is p (suc n) (suc i) h below here =
    ap (λ (b : Bool). least_step b (least n (λ j. p (suc j)))) (below 0 (omega arith))
    ∙ ap suc (first_is (λ j. p (suc j)) n i (omega arith) (λ j k. below (suc j) (omega arith)) (λ k. here (omega arith)))

pub first_most : (p : ℕ → Bool) (n : ℕ) → least n p ≤ n
unfolding least
first_most p zero = omega arith
first_most p (suc n) = go (p 0) (first_most (λ i. p (suc i)) n)
  where
    go : (b : Bool) → least n (λ i. p (suc i)) ≤ n → least_step b (least n (λ i. p (suc i))) ≤ suc n
    go true h = omega arith
    go false h = omega arith

pub first_no : (p : ℕ → Bool) (n i : ℕ) → i < least n p → p i ≡ false
unfolding least
first_no p zero i h = absurd (omega arith)
first_no p (suc n) i h = go (p 0) refl i h (first_no (λ j. p (suc j)) n)
  where
    go : (b : Bool) → p 0 ≡ b → (i : ℕ) → i < least_step b (least n (λ j. p (suc j))) → ((j : ℕ) → j < least n (λ j. p (suc j)) → p (suc j) ≡ false) → p i ≡ false
    go true e i h ih = absurd (omega arith)
    go false e zero h ih = e
    go false e (suc i) h ih = ih i (omega arith)

pub first_yes : (p : ℕ → Bool) (n : ℕ) → least n p < n → p (least n p) ≡ true
unfolding least
first_yes p zero h = absurd (omega arith)
first_yes p (suc n) h = go (p 0) refl h (first_yes (λ j. p (suc j)) n)
  where
    go : (b : Bool) → p 0 ≡ b → least_step b (least n (λ j. p (suc j))) < suc n → (least n (λ j. p (suc j)) < n → p (suc (least n (λ j. p (suc j)))) ≡ true) → p
        (least_step b (least n (λ j. p (suc j)))) ≡ true
    go true e h ih = e
    go false e h ih = ih (omega arith)

-- a number that passes is not before the first
pub first_before : (p : ℕ → Bool) (n i : ℕ) → p i ≡ true → least n p ≤ i
first_before p n i e = go (ltb i (least n p)) refl
  where
    go : (b : Bool) → ltb i (least n p) ≡ b → least n p ≤ i
    go true k = absurd (subst T (sym e ∙ first_no p n i (ltb-true i (least n p) k)) tt)
    go false k = ltb-false i (least n p) k

pub first_same : (p q : ℕ → Bool) (n : ℕ) → ((i : ℕ) → i < n → p i ≡ q i) → least n p ≡ least n q
first_same p q n e =
    let m = first_most q n in
    first_is p n (least n q) m (λ j h. e j (omega arith) ∙ first_no q n j h) (λ h. e (least n q) h ∙ first_yes q n h)
