-- Sixteen sets are read from a depth of the stack, one after another. Assumes nothing.
use Rattle.model.specs.Kit.{arith, rules}
use Rattle.model.specs.Lists.{at}
use Rattle.prune.proofs.{Copies.filled_begin, Copies.filled_turn, Copies.from_start}
use Rattle.prune.proofs.load.Goals as goal

pub loop-i-init : goal.loop-i-init
loop-i-init c = (search rules, filled_begin _ 0 _)

pub loop-i-preserved : goal.loop-i-preserved
unfolding at
loop-i-preserved c = (search rules, filled_turn _ 0 _ _ _ _ c.loop-i.invariant.1 (omega arith) (omega arith))

pub returns : goal.returns
returns c = from_start _ _ _ _ (search rules) (search rules) c.loop-i.invariant.1
