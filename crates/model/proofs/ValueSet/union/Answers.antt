-- `ValueSet::union` meets its contract. Assumes nothing.
use Rattle.model.specs.Kit.{rules}
use Rattle.model.proofs.{Masks.union_op}
use Rattle.model.proofs.ValueSet.union.Goals as goal

pub returns : goal.returns
returns c = union_op _ _ (search rules) (search rules)
