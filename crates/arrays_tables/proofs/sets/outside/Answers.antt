-- What a set lacks. Assumes nothing.
use Rattle.model.specs.Kit.{rules}
use Rattle.model.proofs.Masks.{has_not}
use Rattle.arrays_tables.proofs.sets.outside.Goals as goal

pub returns : goal.returns
returns c = λ v l. has_not 16 _ v (search rules) l
