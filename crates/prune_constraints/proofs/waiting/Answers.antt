-- Those touched, without number k and those left. Assumes nothing.
use Rattle.model.specs.Kit.{◌≡◌, refl, sym, ap, subst, Bool, true, false, not, ◌⊎◌, inl, inr, ⊎_elim, List, ℕ, ◌-◌, ◌*◌, ◌%◌, ◌^◌, ◌<◌, T, eqb→eq, bit_and, bit_or, or_lt, pow-lt, rules}
use Rattle.model.specs.ValueSets.{has}
use Rattle.model.proofs.{Lists.T_of, Lists.both_i, Sets.has_lt, Members.one_bit, Members.one_has, Members.or_e, Members.and_e}
use Rattle.prune_constraints.specs.Inner.Steps.{Touched, Waiting}
use Rattle.prune_constraints.proofs.{Bits.without_has}
use Rattle.prune_constraints.proofs.waiting.Goals as goal

module _ (k left g : ℕ) (h : k < 64) (i : left < 2 ^ 64) (w : g < 2 ^ 64) where
  abbrev done : ℕ
  done = bit_or (1 * 2 ^ k % 2 ^ 64) left

  done_lt : bit_or (1 * 2 ^ k % 2 ^ 64) left < 2 ^ 64
  done_lt = or_lt 64 (1 * 2 ^ k % 2 ^ 64) left (subst (λ (z : ℕ). z < 2 ^ 64) (sym (one_bit 64 k h)) (pow-lt h)) i

  new : (j : ℕ) → T (has g j) → T (has (bit_and g ((2 ^ 64 - 1) - bit_or (1 * 2 ^ k % 2 ^ 64) left)) j) ⊎ (T (has left j) ⊎ (j ≡ k))
  new j q = go (has done j) refl
    where
      go : (b : Bool) → has done j ≡ b → T (has (bit_and g ((2 ^ 64 - 1) - done)) j) ⊎ (T (has left j) ⊎ (j ≡ k))
      go true e = inr (⊎_elim (λ o. inr (eqb→eq j k (subst T (one_has 64 k j h) o))) inl (or_e (1 * 2 ^ k % 2 ^ 64) left j (T_of (has done j) e)))
      go false e = inl (subst T (sym (without_has 64 g done j done_lt (has_lt 64 g j w q))) (both_i (has g j) (not (has done j)) q (T_of (not (has done j)) (ap not e))))

  waits : {numbers : List ℕ} {changed : ℕ} → Touched numbers changed g → Waiting numbers changed k left (bit_and g ((2 ^ 64 - 1) - bit_or (1 * 2 ^ k % 2 ^ 64) left))
  waits u = record { waiting_i = λ x j q o. new j (u.touched_i x j q o); waiting_e = λ j q. u.touched_e j (and_e g ((2 ^ 64 - 1) - done) j q).0 }

pub returns : goal.returns
returns c = waits _ _ _ (search rules) (search rules) (search rules) c.touched.ensures
