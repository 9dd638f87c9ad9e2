-- The order among the numbers, and the room for plans. Assumes nothing.
use Rattle.model.specs.Kit.{◌≡◌, refl, sym, ap, ◌∙◌, subst, Bool, List, ℕ, zero, suc, ◌+◌, ◌-◌, ◌/◌, ◌≤◌, ◌<◌, not-suc-le-zero, dec_lt, ℕ_discrete, arith, eqb, ne_eqb, length, set, length-set}
use Rattle.model.specs.Lists.{at, choose}
use Rattle.model.proofs.Lists.{at_set, at_set_other}
use Rattle.arrays.specs.Inner.Places.{ORDER}
use Rattle.run_task.specs.Inner.Task.{room_for, ordered}

-- ---- the order among the numbers
module _ (order : List ℕ) where
  pub ordered_other : (n i : ℕ) (l : List ℕ) → ((j : ℕ) → j < n → i ≡ ORDER + j → ⊥) → at (ordered order n l) i ≡ at l i
  unfolding ordered
  ordered_other zero i l h = refl
  ordered_other (suc n) i l h = at_set_other (ordered order n l) (ORDER + n) (at order n) i (h n (omega arith)) ∙ ordered_other n i l (λ j m. h j (omega arith))

  pub length_ordered : (n : ℕ) (l : List ℕ) → length (ordered order n l) ≡ length l
  unfolding ordered
  length_ordered zero l = refl
  length_ordered (suc n) l = length-set (ordered order n l) (ORDER + n) (at order n) ∙ length_ordered n l

  pub ordered_at : (n k : ℕ) (l : List ℕ) → ORDER + n ≤ length l → k < n → at (ordered order n l) (ORDER + k) ≡ at order k
  unfolding ordered
  ordered_at zero k l h m = absurd (not-suc-le-zero m)
  ordered_at (suc n) k l h m = go (ordered_at n k l (omega arith)) (dec_lt k n)
    where
      go : (k < n → at (ordered order n l) (ORDER + k) ≡ at order k) → Dec (k < n) → at (set (ordered order n l) (ORDER + n) (at order n)) (ORDER + k) ≡ at order k
      go ih (yes d) = at_set_other (ordered order n l) (ORDER + n) (at order n) (ORDER + k) (λ e. omega arith) ∙ ih d
      go ih (no d) =
          let e : n ≡ k = omega arith in
          ap (λ (j : ℕ). at (set (ordered order n l) (ORDER + n) (at order n)) (ORDER + j)) (sym e) ∙ at_set (ordered order n l) (ORDER + n) (at order n)
          (let s = length_ordered n l in omega arith) ∙ ap (at order) e

-- the first k numbers stand at their places, and the next is put
pub placed_next : (k : ℕ) (list : List ℕ) → k < length list → ((j : ℕ) → j < k → at list j ≡ j) → (j : ℕ) → j < k + 1 → at (set list k k) j ≡ j
placed_next k list l h j m = go (ℕ_discrete j k)
  where
    go : Dec (j ≡ k) → at (set list k k) j ≡ j
    go (yes e) = subst (λ (i : ℕ). at (set list k k) i ≡ i) (sym e) (at_set list k k l)
    go (no e) = at_set_other list k k j e ∙ h j (omega arith)

-- ---- how many plans there is room for
pub room_listed : (wanted n size : ℕ) → wanted ≡ 0 → size / n ≡ room_for wanted n size
room_listed wanted n size e = ap (λ (w : ℕ). choose (eqb w 0) (size / n) (wanted - 1)) (sym e)

pub room_wanted : (wanted n size : ℕ) → (wanted ≡ 0 → ⊥) → wanted - 1 ≡ room_for wanted n size
room_wanted wanted n size o = ap (λ (c : Bool). choose c (size / n) (wanted - 1)) (sym (ne_eqb wanted 0 o))
