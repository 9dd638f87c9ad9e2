-- The member test of a number. Assumes nothing.
use Rattle.model.proofs.Masks.{contains_op}
use Rattle.arrays_tables.proofs.sets.contains.Goals as goal

pub returns : goal.returns
returns c = contains_op _ _
