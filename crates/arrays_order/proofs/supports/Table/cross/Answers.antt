-- One value after another. Assumes nothing.
use Rattle.model.specs.Kit.{sym, subst, arith, rules}
use Rattle.model.specs.Lists.{at}
use Rattle.arrays_order.specs.Inner.Steps.{Crossed}
use Rattle.arrays_order.proofs.{Swaps.crossed_begin, Swaps.crossed_turn, Swaps.crossed_end}
use Rattle.arrays_order.proofs.supports.Table.cross.Goals as goal

pub loop-w-init : goal.loop-w-init
loop-w-init c = crossed_begin _ _ _

pub loop-w-preserved : goal.loop-w-preserved
unfolding at
loop-w-preserved c = subst (Crossed _ _ _ _) (sym (c.swap.ensures.by_index.3 0))
    (crossed_turn _ _ _ _ _ (omega arith) (omega arith) (omega arith) c.loop-w.invariant)

pub returns : goal.returns
returns c = crossed_end _ _ _ _ _ (search rules) (search rules) c.loop-w.invariant
