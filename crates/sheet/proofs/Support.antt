-- What the rows leave in the with_row sets. Assumes nothing.
use Rattle.model.specs.Kit.{◌≡◌, refl, sym, ap, ap₂, ◌∙◌, subst, Bool, true, false, List, map, ℕ, zero, suc, ◌+◌, ◌/◌, ◌%◌, ◌^◌, ◌≤◌, ◌<◌, arith, eqb, length, set, length-set, eqb-true, eqb-false}
use Rattle.model.specs.Kit.{eq-eqb, ne_eqb}
use Rattle.model.specs.{Lists.at, Lists.either, Lists.any, Lists.below, ValueSets.has, ValueSets.union_mask}
use Rattle.model.proofs.{Lists.at_set, Lists.at_set_other, Sets.has_mask, Sets.mask_lt, Masks.has_one, Members.either_no}
use Rattle.sheet.specs.Inner.Fill.{row_key, with_row, with_rows}
use Rattle.sheet.proofs.Any.{either_assoc, any_more, any_none}

-- numbers are equal where quotient and remainder are
same_parts : (m x : ℕ) → m / 16 ≡ x / 16 → eqb (m % 16) (x % 16) ≡ eqb m x
same_parts m x e = go (eqb m x) refl
  where
    go : (t : Bool) → eqb m x ≡ t → eqb (m % 16) (x % 16) ≡ t
    go true q = let z : m ≡ x = eqb-true m x q in eq-eqb (m % 16) (x % 16) (ap (λ (n : ℕ). n % 16) z)
    go false q = let n : m ≡ x → ⊥ = eqb-false m x q in ne_eqb (m % 16) (x % 16) (λ z. n (omega arith))

-- what a key does to the set of key m
row_at : (base x m : ℕ) (l : List ℕ) → base + x / 16 < length l → has (at (with_row base x l) (base + m / 16)) (m % 16) ≡ either (has (at l (base + m / 16)) (m % 16)) (eqb m x)
unfolding with_row
row_at base x m l h = go (eqb (m / 16) (x / 16)) refl
  where
    go : (t : Bool) → eqb (m / 16) (x / 16) ≡ t →
        has (at (set l (base + x / 16) (union_mask (at l (base + x / 16)) (2 ^ (x % 16)))) (base + m / 16)) (m % 16) ≡ either (has (at l (base + m / 16)) (m % 16)) (eqb m x)
    go true e =
        let q : m / 16 ≡ x / 16 = eqb-true (m / 16) (x / 16) e in
        ap (λ (z : ℕ). has (at (set l (base + x / 16) (union_mask (at l (base + x / 16)) (2 ^ (x % 16)))) (base + z)) (m % 16)) q
        ∙ ap (λ (s : ℕ). has s (m % 16)) (at_set l (base + x / 16) (union_mask (at l (base + x / 16)) (2 ^ (x % 16))) h)
        ∙ has_mask 16 _ (m % 16) (omega arith)
        ∙ ap₂ either (ap (λ (z : ℕ). has (at l (base + z)) (m % 16)) (sym q)) (has_one (x % 16) (m % 16) ∙ same_parts m x q)
    go false e =
        let n : m / 16 ≡ x / 16 → ⊥ = eqb-false (m / 16) (x / 16) e in
        ap (λ (s : ℕ). has s (m % 16)) (at_set_other l (base + x / 16) _ (base + m / 16) (λ z. n (omega arith)))
        ∙ sym (ap (either (has (at l (base + m / 16)) (m % 16))) (ne_eqb m x (λ z. n (ap (λ (k : ℕ). k / 16) z))) ∙ either_no (has (at l (base + m / 16)) (m % 16)))

row_small : (base x y : ℕ) (l : List ℕ) → ((z : ℕ) → at l z < 2 ^ 16) → base + x / 16 < length l → at (with_row base x l) y < 2 ^ 16
unfolding with_row
row_small base x y l s h = go (eqb y (base + x / 16)) refl
  where
    go : (t : Bool) → eqb y (base + x / 16) ≡ t → at (set l (base + x / 16) (union_mask (at l (base + x / 16)) (2 ^ (x % 16)))) y < 2 ^ 16
    go true e =
        subst (λ (k : ℕ). k < 2 ^ 16) (sym (ap (at (set l (base + x / 16) (union_mask (at l (base + x / 16)) (2 ^ (x % 16))))) (eqb-true y (base + x / 16) e) ∙ at_set l (base + x / 16)
        (union_mask (at l (base + x / 16)) (2 ^ (x % 16))) h))
        (mask_lt 16 _)
    go false e = subst (λ (k : ℕ). k < 2 ^ 16) (sym (at_set_other l (base + x / 16) _ y (eqb-false y (base + x / 16) e))) (s y)

-- rows whose keys are below 4096
module _ (b : List ℕ) (from a base r : ℕ) (keys : (j : ℕ) → j < r → row_key b from a j < 4096) (l : List ℕ) (long : base + 256 ≤ length l) where
  pub rows_length : (i : ℕ) → length (with_rows b from a base i l) ≡ length l
  unfolding with_rows with_row
  rows_length zero = refl
  rows_length (suc i) = length-set (with_rows b from a base i l) (base + row_key b from a i / 16) _ ∙ rows_length i

  within : (i : ℕ) → i < r → base + row_key b from a i / 16 < length (with_rows b from a base i l)
  within i h = omega (arith, keys i h, rows_length i)

  pub rows_at_lem : (i : ℕ) → i ≤ r → (m : ℕ) → has (at (with_rows b from a base i l) (base + m / 16)) (m % 16) ≡ either (has (at l (base + m / 16)) (m % 16))
      (any (eqb m) (map (row_key b from a) (below i)))
  unfolding with_rows
  rows_at_lem zero h m = sym (ap (either (has (at l (base + m / 16)) (m % 16))) (any_none (eqb m) (row_key b from a)) ∙ either_no (has (at l (base + m / 16)) (m % 16)))
  rows_at_lem (suc i) h m =
      row_at base (row_key b from a i) m (with_rows b from a base i l) (within i (omega arith))
      ∙ ap (λ (t : Bool). either t (eqb m (row_key b from a i))) (rows_at_lem i (omega arith) m)
      ∙ either_assoc (has (at l (base + m / 16)) (m % 16)) (any (eqb m) (map (row_key b from a) (below i))) (eqb m (row_key b from a i))
      ∙ ap (either (has (at l (base + m / 16)) (m % 16))) (sym (any_more (eqb m) (row_key b from a) i))

  pub rows_small : (i : ℕ) → i ≤ r → ((z : ℕ) → at l z < 2 ^ 16) → (y : ℕ) → at (with_rows b from a base i l) y < 2 ^ 16
  unfolding with_rows
  rows_small zero h s y = s y
  rows_small (suc i) h s y = row_small base (row_key b from a i) y (with_rows b from a base i l) (rows_small i (omega arith) s) (within i (omega arith))

  pub rows_low : (i : ℕ) → i ≤ r → (y : ℕ) → y < base → at (with_rows b from a base i l) y ≡ at l y
  unfolding with_rows with_row
  rows_low zero h y m = refl
  rows_low (suc i) h y m = at_set_other (with_rows b from a base i l) (base + row_key b from a i / 16) _ y (λ e. omega arith) ∙ rows_low i (omega arith) y m

  pub rows_high : (i : ℕ) → i ≤ r → (y : ℕ) → base + 256 ≤ y → at (with_rows b from a base i l) y ≡ at l y
  unfolding with_rows with_row
  rows_high zero h y m = refl
  rows_high (suc i) h y m = at_set_other (with_rows b from a base i l) (base + row_key b from a i / 16) _ y (λ e. (let k = keys i (omega arith) in omega arith)) ∙ rows_high i (omega arith) y m
