-- The initial set is read where the layout has it. Assumes nothing.
use Rattle.model.specs.Kit.{refl}
use Rattle.model.specs.Lists.{at}
use Rattle.arrays_tables.proofs.sets.initial.Goals as goal

pub returns : goal.returns
unfolding at
returns c = refl
