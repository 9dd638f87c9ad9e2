-- The lent sets copied to the front of the sixteen, and cleared. Assumes nothing.
use Rattle.model.specs.Kit.{◌≡◌, refl, sym, ◌∙◌, subst, false, List, ℕ, ◌+◌, ◌-◌, ◌^◌, ◌≤◌, ◌<◌, ◌++◌, dec_lt, arith, length, drop, length-append, length-drop}
use Rattle.std.proofs.Math.Seq.{take-append_seam}
use Rattle.model.specs.{Lists.at}
use Rattle.model.proofs.{Lists.at_append, Lists.at_skip, Lists.at_drop}
use Rattle.filter.specs.Inner.Lists.{Loaded}

-- none of the lent sets is empty, and all are copied
pub loaded : (ss old : List ℕ) → length ss ≤ 16 → length old ≡ 16 → ((x : ℕ) → at ss x < 2 ^ 16) → ((x : ℕ) → at old x < 2 ^ 16)
    → ((x : ℕ) → x < length ss → at ss x ≡ 0 → ⊥) → Loaded false ss (ss ++ drop (length ss) old)
loaded ss old a n b o f = (
  take-append_seam ss (drop (length ss) old),
  record { few = a; sixteen = omega (arith, length-append {A = ℕ}, length-drop {A = ℕ}); small = small; full = λ x m e. f x m (sym (at_append ss (drop (length ss) old) x m) ∙ e) },
)
  where
    small : (x : ℕ) → at (ss ++ drop (length ss) old) x < 2 ^ 16
    small x = go (dec_lt x (length ss))
      where
        go : Dec (x < length ss) → at (ss ++ drop (length ss) old) x < 2 ^ 16
        go (yes m) = subst (λ (s : ℕ). s < 2 ^ 16) (sym (at_append ss (drop (length ss) old) x m)) (b x)
        go (no m) = subst (λ (s : ℕ). s < 2 ^ 16) (sym (at_skip ss (drop (length ss) old) (length ss) x refl (omega arith) ∙ at_drop (length ss) old (x - length ss))) (o (length ss + (x - length ss)))
