-- The loop's invariant: the sets before y lost the table's. Assumes nothing.
use Rattle.model.specs.Lists.{at}
use Rattle.prune_symmetries.proofs.{Cuts.taking_none, Cuts.taking_next, Cuts.taken}
use Rattle.prune_symmetries.proofs.take.Goals as goal

pub loop-y-init : goal.loop-y-init
loop-y-init c = taking_none c.args.sets.now c.args.tables.now c.args.first

pub loop-y-preserved : goal.loop-y-preserved
unfolding at
loop-y-preserved c = taking_next c.requires.0 c.loop-y-test.true c.loop-y.invariant

pub returns : goal.returns
returns c = taken c.loop-y-test.false c.loop-y.invariant
