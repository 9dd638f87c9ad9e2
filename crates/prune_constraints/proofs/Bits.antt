-- A set of one or none, the members of a set without another's, and a set inside another. Assumes nothing.
use Rattle.model.specs.Kit.{◌≡◌, ap, ◌∙◌, subst, Bool, true, false, not, ℕ, ◌-◌, ◌^◌, ◌≤◌, ◌<◌, lt_of_le_of_lt, arith, T, bit_and, and_le_l, pow-lt}
use Rattle.model.specs.{Lists.both, ValueSets.has, ValueSets.one_if}
use lib.Bits.{and_le_r}
use Rattle.model.proofs.{Lists.TExt, Sets.mask_ext, Masks.has_and, Masks.has_not, Members.and_i, Members.and_e}

pub one_small : (b : Bool) (x : ℕ) → x < 16 → one_if b x < 2 ^ 16
one_small true x h = pow-lt h
one_small false x h = omega arith

-- a set without the members of another, by the complement of that
pub without_has : (w a m j : ℕ) → m < 2 ^ w → j < w → has (bit_and a ((2 ^ w - 1) - m)) j ≡ both (has a j) (not (has m j))
without_has w a m j h l = has_and a ((2 ^ w - 1) - m) j ∙ ap (both (has a j)) (has_not w m j h l)

pub inside_le : (a b : ℕ) → a < 2 ^ 16 → ((v : ℕ) → T (has a v) → T (has b v)) → a ≤ b
inside_le a b h i =
    subst (λ (n : ℕ). n ≤ b)
    (mask_ext 16 (bit_and a b) a (lt_of_le_of_lt (and_le_l a b) h) h (λ v l. TExt (has (bit_and a b) v) (has a v) (λ t. (and_e a b v t).0) (λ t. and_i a b v t (i v t)))) (and_le_r a b)
