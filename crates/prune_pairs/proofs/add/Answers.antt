-- The loop: of sixteen sets those before y have got theirs of the tables, the others are as they came. Assumes nothing.
use Rattle.model.specs.Kit.{arith}
use Rattle.model.specs.Lists.{at}
use Rattle.prune_pairs.proofs.{Covers.adding_begin, Covers.adding_turn, Covers.adding_end}
use Rattle.prune_pairs.proofs.add.Goals as goal

pub loop-y-init : goal.loop-y-init
loop-y-init c = adding_begin _ _ _ c.requires.2

pub loop-y-preserved : goal.loop-y-preserved
unfolding at
loop-y-preserved c = adding_turn c.loop-y.invariant (omega arith) (c.requires.1 _ (omega arith))

pub returns : goal.returns
returns c = adding_end c.loop-y.invariant (omega arith)
