-- A set of a depth. Assumes nothing.
use Rattle.model.specs.Kit.{rules}
use Rattle.model.specs.Lists.{at}
use Rattle.run_key.proofs.set_at.Goals as goal

pub returns : goal.returns
unfolding at
returns c = search rules
