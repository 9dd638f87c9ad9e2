-- A byte of the images. Assumes nothing.
use Rattle.model.specs.Kit.{arith, rules}
use Rattle.model.specs.Lists.{at}
use Rattle.families_closed.proofs.Symmetries.goes.Goals as goal

pub from-requires : goal.from-requires
unfolding at
from-requires c = omega (arith, c.requires.2)

pub returns : goal.returns
unfolding at
returns c = search rules
