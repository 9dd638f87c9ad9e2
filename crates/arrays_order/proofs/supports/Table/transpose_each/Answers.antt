-- Sixteen sets after another sixteen. Assumes nothing.
use Rattle.model.specs.Kit.{arith}
use Rattle.model.proofs.Filling.{filled_begin}
use Rattle.arrays_order.proofs.{Tables.transposed_turn, Swaps.transposed_of}
use Rattle.arrays_order.proofs.supports.Table.transpose_each.Goals as goal

pub loop-v-init : goal.loop-v-init
loop-v-init c = filled_begin _ _ _

pub loop-v-preserved : goal.loop-v-preserved
loop-v-preserved c = transposed_turn _ _ _ _ _ c.loop-v.invariant c.transpose.ensures

pub returns : goal.returns
returns c = transposed_of _ _ _ _ c.requires _ (omega arith) (omega arith) (omega arith) c.loop-v.invariant
