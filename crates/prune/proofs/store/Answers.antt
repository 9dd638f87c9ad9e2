-- Sixteen sets are stored at a depth of the stack, one after another. Assumes nothing.
use Rattle.model.specs.Kit.{refl, arith, rules}
use Rattle.model.specs.Lists.{at}
use Rattle.prune.proofs.{Copies.filled_begin, Copies.filled_turn, Copies.stored}
use Rattle.prune.proofs.store.Goals as goal

pub loop-i-init : goal.loop-i-init
loop-i-init c = (search rules, filled_begin _ _ _)

pub loop-i-preserved : goal.loop-i-preserved
unfolding at
loop-i-preserved c = (search rules, filled_turn _ _ _ _ _ _ c.loop-i.invariant.1 refl (omega arith))

pub returns : goal.returns
returns c = stored _ _ _ _ _ (search rules) c.loop-i.invariant.1
