-- The first two names. Assumes nothing.
use Rattle.model.specs.Kit.{rules}
use Rattle.arrays_order.proofs.{Swaps.narrow_swapped, Sorts.after_swap}
use Rattle.arrays_order.proofs.constraints.three.Goals as goal

pub returns-then-x-y : goal.returns-then-x-y
returns-then-x-y c = c.second.ensures

pub second-requires-2 : goal.second-requires-2
second-requires-2 c = (
  narrow_swapped _ _ _ _ c.requires.0 c.swap.ensures,
  search rules,
  search rules,
  search rules,
  search rules,
  search rules,
)

pub returns : goal.returns
returns c = after_swap _ _ _ _ _ _ _ _ c.requires.4 c.swap.ensures c.second-2.ensures
