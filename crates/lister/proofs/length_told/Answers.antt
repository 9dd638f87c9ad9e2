-- `length_told`: the four bytes, low byte first. Assumes nothing.
use Rattle.model.specs.Kit.{refl}
use Rattle.model.specs.Lists.{at}
use Rattle.lister.proofs.length_told.Goals as goal

pub returns : goal.returns
unfolding at
returns c = refl
