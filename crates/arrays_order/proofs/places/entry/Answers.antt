-- An element. Assumes nothing.
use Rattle.model.specs.Kit.{refl}
use Rattle.model.specs.Lists.{at}
use Rattle.arrays_order.proofs.places.entry.Goals as goal

pub returns : goal.returns
unfolding at
returns c = refl
