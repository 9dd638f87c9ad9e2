-- `run_between::values_within` meets its contract. Assumes nothing.
use Rattle.model.specs.Lists.{at}
use Rattle.run_between.proofs.values_within.Goals as goal

pub returns : goal.returns
unfolding at
returns c = c.middle.ensures
