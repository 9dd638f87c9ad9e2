-- One set after another. Assumes nothing.
use Rattle.model.specs.Kit.{arith}
use Rattle.model.specs.Lists.{at}
use Rattle.arrays_order.proofs.{Loops.columns_begin, Loops.columns_turn, Loops.columns_end}
use Rattle.arrays_order.proofs.supports.gather.Goals as goal

pub loop-v-init : goal.loop-v-init
loop-v-init c = columns_begin _ _ _ c.told-columns c.requires.1

pub loop-v-preserved : goal.loop-v-preserved
unfolding at
loop-v-preserved c = columns_turn _ _ _ _ _ c.loop-v.invariant c.add.ensures

pub returns : goal.returns
returns c = (c.loop-v.invariant.size, columns_end _ _ _ _ (omega arith) c.loop-v.invariant)
