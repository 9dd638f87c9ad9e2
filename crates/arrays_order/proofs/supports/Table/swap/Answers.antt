-- One value after another. Assumes nothing.
use Rattle.model.specs.Kit.{arith, rules}
use Rattle.arrays_order.proofs.{Swaps.turned_begin, Swaps.turned_turn, Swaps.swapped_of}
use Rattle.arrays_order.proofs.supports.Table.swap.Goals as goal

pub loop-v-init : goal.loop-v-init
loop-v-init c = turned_begin _ _

pub loop-v-preserved : goal.loop-v-preserved
loop-v-preserved c = turned_turn _ _ _ _ _ (omega arith) c.loop-v.invariant c.cross.ensures

pub returns : goal.returns
returns c = swapped_of _ _ _ _ _ (search rules) (search rules) (search rules) c.requires c.loop-v.invariant
