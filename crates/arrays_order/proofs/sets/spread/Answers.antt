-- One number after another. Assumes nothing.
use Rattle.model.specs.Kit.{refl, ap, ◌∙◌, ℕ, ◌+◌, arith, rules}
use Rattle.model.specs.{Lists.at}
use Rattle.model.proofs.Filling.{filled_begin, filled_turn, filled_end}
use Rattle.arrays.proofs.Copies.{copied_at}
use Rattle.arrays_order.proofs.sets.spread.Goals as goal

pub loop-i-init : goal.loop-i-init
loop-i-init c = (λ j. copied_at c.args.numbers.now _ c.args.from 16 j c.copy_from_slice.ensures.after, filled_begin _ _ _)

pub loop-i-preserved : goal.loop-i-preserved
unfolding at
loop-i-preserved c = (
  c.loop-i.invariant.0,
  filled_turn _ _ _ _ _ _ _ c.loop-i.invariant.1 refl (omega arith) (λ v l e. omega arith)
      (c.loop-i.invariant.0 _ (omega (arith, c.entry.ensures, c.from.ensures, c.args.order.small c.loop-i.i (search rules))) ∙ ap
      (λ (z : ℕ). at c.args.numbers.now (c.args.from + z)) (c.from.ensures ∙ c.entry.ensures)),
)

pub returns : goal.returns
returns c = filled_end _ _ _ _ _ _ (search rules) (search rules) c.loop-i.invariant.1

pub bounds-old-from : goal.bounds-old-from
bounds-old-from c = omega (arith, c.entry.ensures, c.from.ensures, c.args.order.small c.loop-i.i (search rules))
