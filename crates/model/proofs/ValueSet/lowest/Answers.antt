-- `ValueSet::lowest` meets its contract. Assumes nothing.
use Rattle.model.proofs.{Masks.lowest_op}
use Rattle.model.proofs.ValueSet.lowest.Goals as goal

pub returns : goal.returns
returns c = lowest_op 16 _
