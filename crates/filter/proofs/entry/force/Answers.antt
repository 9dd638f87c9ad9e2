-- `filter::entry::force` meets its contract. Assumes nothing.
use Rattle.model.specs.Kit.{ap, set}
use Rattle.model.specs.Lists.{at}
use Rattle.filter.proofs.entry.force.Goals as goal

pub returns : goal.returns
unfolding at
returns c = ap (set c.args.sets.now c.args.x) c.only-kept.ensures
