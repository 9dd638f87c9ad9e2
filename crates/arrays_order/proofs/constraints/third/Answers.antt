-- The first two names. Assumes nothing.
use Rattle.model.specs.Kit.{arith, rules}
use Rattle.arrays_order.proofs.{Sorts.stays_3, Sorts.after_swap}
use Rattle.arrays_order.proofs.constraints.third.Goals as goal

pub returns-then-x-y : goal.returns-then-x-y
returns-then-x-y c = stays_3 _ _ _ _ _ (search rules) (search rules) (search rules)

pub returns : goal.returns
returns c = after_swap _ _ _ _ _ _ _ _ c.requires.4 c.swap.ensures (stays_3 _ _ _ _ _ (omega arith) (search rules) (search rules))
