-- The lowest member of a set, the set without a member, and with one more. Assumes nothing.
use Rattle.std.specs.Prelude.{None, Some}
use Rattle.model.specs.EachMember.{NextMember, comes, over}
use Rattle.model.specs.Kit.{◌≡◌, refl, sym, ap, ◌∙◌, subst, Bool, true, false, not, ◌∷◌, Memᴰ, Memᴰ-head, Memᴰ-tail, Memᴰ-cast, ℕ, ◌-◌, ◌*◌, ◌%◌, ◌^◌, ◌≤◌, ◌<◌, arith, T, T_not}
use Rattle.model.specs.Kit.{eqb, ltb, bit_or, and_le_l, pow-lt, eqb-true, eqb-false, eq-eqb, ltb-true, ltb-false}
use Rattle.model.specs.ValueSets.{has, full_mask, without_mask, only_mask, union_mask, lowest_of, members}
use Rattle.model.proofs.{Least.first_most, Lists.T_of, Lists.of_not, Lists.both_i, Lists.both_l, Lists.both_r, Lists.sorted_ext, Sets.has_lt, Sets.mask_i, Sets.mask_e, Sets.members_i}
use Rattle.model.proofs.{Sets.members_e, Sets.members_sorted, Masks.least_below, Masks.lowest_op, Masks.union_op, Masks.without_op, Members.low_has, Members.one_op}

pub lowest_le : (s : ℕ) → lowest_of s ≤ 16
lowest_le s = first_most (has s) 16

pub lowest_in : (s : ℕ) → s < 2 ^ 16 → (s ≡ 0 → ⊥) → T (has s (lowest_of s))
lowest_in s h n = subst (λ (v : ℕ). T (has s v)) (lowest_op 16 s) (low_has 16 s (omega arith) h).0

-- a loop over the members: its test
-- ---- the set without a member
pub without_i : (s u v : ℕ) → s < 2 ^ 16 → T (has s v) → (v ≡ u → ⊥) → T (has (without_mask s u) v)
without_i s u v h t n = mask_i _ v (has_lt 16 s v h t) (both_i (has s v) (not (eqb v u)) t (other (eqb v u) refl))
  where
    other : (b : Bool) → eqb v u ≡ b → T (not b)
    other true e = absurd (n (eqb-true v u e))
    other false e = tt

pub without_e : (s u v : ℕ) → T (has (without_mask s u) v) → T (has s v) × (v ≡ u → ⊥)
without_e s u v t =
    let q = (mask_e _ v t).1 in
    (both_l (has s v) (not (eqb v u)) q, λ e. T_not (eqb v u) (both_r (has s v) (not (eqb v u)) q) (T_of (eqb v u) (eq-eqb v u e)))

pub without_less : (s u : ℕ) → s < 2 ^ 16 → T (has s u) → without_mask s u < s
without_less s u h t =
    let l : without_mask s u ≤ s = subst (λ (m : ℕ). m ≤ s) (without_op s u h (has_lt 16 s u h t)) (and_le_l s ((2 ^ 16 - 1) - 1 * 2 ^ u % 2 ^ 16)) in
    let n : without_mask s u ≡ s → ⊥ = λ e. (without_e s u u (subst (λ (m : ℕ). T (has m u)) (sym e) t)).1 refl in
    omega arith

pub lowest_less : (s : ℕ) → s < 2 ^ 16 → (s ≡ 0 → ⊥) → without_mask s (lowest_of s) < s
lowest_less s h n = without_less s (lowest_of s) h (lowest_in s h n)

-- ---- the members in turn
pub members_lowest : (s : ℕ) → s < 2 ^ 16 → (s ≡ 0 → ⊥) → members s ≡ lowest_of s ∷ members (without_mask s (lowest_of s))
members_lowest s h n =
    sorted_ext (λ (x y : ℕ). x < y) (λ x y p q. omega arith) (members s) (lowest_of s ∷ members (without_mask s (lowest_of s))) (members_sorted s)
    (above, members_sorted (without_mask s (lowest_of s))) there back
  where
    above : (y : ℕ) → Memᴰ y (members (without_mask s (lowest_of s))) → lowest_of s < y
    above y m = go (without_e s (lowest_of s) y (members_e (without_mask s (lowest_of s)) y m).1) (ltb y (lowest_of s)) refl
      where
        go : T (has s y) × (y ≡ lowest_of s → ⊥) → (b : Bool) → ltb y (lowest_of s) ≡ b → lowest_of s < y
        go q true e = absurd (of_not (has s y) (least_below 16 (has s) y (ltb-true y (lowest_of s) e)) q.0)
        go q false e = let l = ltb-false y (lowest_of s) e in let d = q.1 in omega arith

    there : (v : ℕ) → Memᴰ v (members s) → Memᴰ v (lowest_of s ∷ members (without_mask s (lowest_of s)))
    there v m = go (members_e s v m) (eqb v (lowest_of s)) refl
      where
        go : (v < 16) × T (has s v) → (b : Bool) → eqb v (lowest_of s) ≡ b → Memᴰ v (lowest_of s ∷ members (without_mask s (lowest_of s)))
        go q true e = Memᴰ-head (eqb-true v (lowest_of s) e)
        go q false e = Memᴰ-tail (members_i (without_mask s (lowest_of s)) v q.0 (without_i s (lowest_of s) v h q.1 (eqb-false v (lowest_of s) e)))

    back : (v : ℕ) → Memᴰ v (lowest_of s ∷ members (without_mask s (lowest_of s))) → Memᴰ v (members s)
    back v (Memᴰ-head e) = let t = lowest_in s h n in Memᴰ-cast e (members_i s (lowest_of s) (has_lt 16 s (lowest_of s) h t) t)
    back v (Memᴰ-tail m) = let q = members_e (without_mask s (lowest_of s)) v m in members_i s v q.0 (without_e s (lowest_of s) v q.1).0

-- ---- one member more
pub with_one : (s v : ℕ) → s < 2 ^ 16 → v < 16 → union_mask s (only_mask (full_mask 16) v) ≡ bit_or s (2 ^ v)
with_one s v h l = ap (union_mask s) (one_op v l) ∙ sym (union_op s (2 ^ v) h (pow-lt l))

-- ---- going over the members
pub next_comes : {left v new : ℕ} → NextMember left (Some v) new → (left ≡ 0 → ⊥) × (v ≡ lowest_of left) × (new ≡ without_mask left (lowest_of left))
next_comes (comes some) = (some, refl, refl)

pub next_over : {left new : ℕ} → NextMember left None new → left ≡ 0
next_over (over none) = none
