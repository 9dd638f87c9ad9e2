-- Two names. Assumes nothing.
use Rattle.model.specs.Kit.{arith, rules}
use Rattle.arrays_order.proofs.{Sorts.stays_2, Sorts.after_2}
use Rattle.arrays_order.proofs.constraints.two.Goals as goal

pub returns-then-x-y : goal.returns-then-x-y
returns-then-x-y c = stays_2 _ _ _ _ (search rules) (search rules)

pub returns : goal.returns
returns c = after_2 _ _ _ _ _ _ _ c.requires.2 c.transpose.ensures (stays_2 _ _ _ _ (omega arith) (search rules))
