-- The positions of a block in an order, gathered one by one. Assumes nothing.
use Rattle.model.specs.Kit.{◌≡◌, refl, sym, ap, ◌∙◌, subst, Bool, true, false, List, ℕ, ◌+◌, ◌*◌, ◌%◌, ◌^◌, ◌<◌, bit_or, ltb, eqb, length, get_or}
use Rattle.model.specs.{Lists.at, Lists.both, Inner.Filling.Gathered}
use lib.Bits.{or_zero_r}
use Rattle.block.specs.Block.{in_block, in_lent}
use Rattle.model.proofs.{Sets.has_none, Members.one_has, Filling.gathered_more}
use Rattle.block.proofs.BlockLent.{inside_other, inside_two}

-- the next position, where its variable is one of the block, and where it isn't
module _ (f : ℕ → Bool) (i set : ℕ) (g : Gathered f i set) where
  pub gather_one : i < 64 → f i ≡ true → Gathered f (i + 1) (bit_or set (1 * 2 ^ i % 2 ^ 64))
  gather_one small e = gathered_more f i set _ g (λ j. one_has 64 i j small ∙ sym (ap (λ (b : Bool). both b (eqb j i)) e))

  pub gather_none : f i ≡ false → Gathered f (i + 1) set
  gather_none e = subst (Gathered f (i + 1)) (or_zero_r set) (gathered_more f i set 0 g (λ j. has_none j ∙ sym (ap (λ (b : Bool). both b (eqb j i)) e)))

-- a block as it is lent
both_none : (b : Bool) → false ≡ both b false
both_none true = refl
both_none false = refl

pub positions_other : (block order : List ℕ) (n : ℕ) → (length block ≡ 2 → ⊥) → Gathered (λ i. in_lent block (at order i)) n 0
positions_other block order n f = record { has_is = λ x. has_none x ∙ both_none (ltb x n) ∙ sym (ap (both (ltb x n)) (inside_other block f (at order x))) }

pub positions_two : (block order : List ℕ) (n set : ℕ) → length block ≡ 2 → Gathered (λ i. in_block (get_or block 0 0) (get_or block 1 0) (at order i)) n set → Gathered
    (λ i. in_lent block (at order i)) n set
positions_two block order n set e g = record { has_is = λ x. g.has_is x ∙ ap (both (ltb x n)) (inside_two block e (at order x)) }
