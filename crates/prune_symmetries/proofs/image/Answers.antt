-- The image of a pair is read where the tables have it. Assumes nothing.
use Rattle.model.specs.Kit.{refl}
use Rattle.model.specs.Lists.{at}
use Rattle.prune_symmetries.proofs.image.Goals as goal

pub returns : goal.returns
unfolding at
returns c = refl
