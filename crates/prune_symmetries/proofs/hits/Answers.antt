-- The loop's invariant: where nothing was hit so far, no set before y has a value of the table's. Assumes nothing.
use Rattle.model.specs.Lists.{at}
use Rattle.prune_symmetries.proofs.{Cuts.missing_none, Cuts.missing_next, Cuts.missed}
use Rattle.prune_symmetries.proofs.hits.Goals as goal

pub loop-y-init : goal.loop-y-init
loop-y-init c = missing_none c.args.sets.now c.args.tables.now c.args.first

pub loop-y-preserved : goal.loop-y-preserved
unfolding at
loop-y-preserved c = missing_next c.args.sets.now c.args.tables.now c.args.first
    c.loop-y.hit c.loop-y.y c.loop-y-test.true c.loop-y.invariant

pub returns : goal.returns
returns c = missed c.args.sets.now c.args.tables.now c.args.first c.loop-y.hit c.loop-y.y c.loop-y-test.false
    c.loop-y.invariant
