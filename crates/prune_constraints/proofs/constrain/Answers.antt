-- By the number of values. Assumes nothing.
use Rattle.model.specs.Kit.{rules}
use Rattle.model.specs.Lists.{at}
use Rattle.prune_constraints.proofs.constrain.Goals as goal

pub constrain8-requires : goal.constrain8-requires
unfolding at
constrain8-requires c = search rules
