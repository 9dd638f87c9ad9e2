-- The last two names. Assumes nothing.
use Rattle.model.specs.Kit.{rules}
use Rattle.arrays_order.proofs.{Swaps.narrow_transposed, Sorts.after_transpose}
use Rattle.arrays_order.proofs.constraints.second.Goals as goal

pub returns-then-y-z : goal.returns-then-y-z
returns-then-y-z c = c.third.ensures

pub third-requires-2 : goal.third-requires-2
third-requires-2 c = (
  narrow_transposed _ _ _ _ c.requires.0 c.transpose_each.ensures,
  search rules,
  search rules,
  search rules,
  search rules,
)

pub returns : goal.returns
returns c = after_transpose _ _ _ _ _ _ _ _ c.requires.5 c.transpose_each.ensures c.third-2.ensures
