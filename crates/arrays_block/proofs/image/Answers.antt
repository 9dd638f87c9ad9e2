use Rattle.model.specs.Kit.{arith}
use Rattle.arrays_block.proofs.{Moving.few, Moving.row_lt, Moving.entry_at, Moving.image_is}
use Rattle.arrays_block.proofs.image.Goals as goal

pub returns : goal.returns
returns c = image_is _ _ _ c.requires.0 _ _ c.requires.1

pub overflow_mul-result : goal.overflow_mul-result
overflow_mul-result c = omega (arith, row_lt _ _ _ c.requires.0, few _ _ _ c.requires.0)

pub overflow_add-result-2 : goal.overflow_add-result-2
overflow_add-result-2 c = omega (arith, row_lt _ _ _ c.requires.0, few _ _ _ c.requires.0)

pub bounds-rows-row : goal.bounds-rows-row
bounds-rows-row c = omega (arith, row_lt _ _ _ c.requires.0, few _ _ _ c.requires.0)

pub overflow_sub-result-3 : goal.overflow_sub-result-3
overflow_sub-result-3 c = omega (arith, entry_at _ _ _ c.requires.0 _ c.requires.1)
