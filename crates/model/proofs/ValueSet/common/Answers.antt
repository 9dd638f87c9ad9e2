-- `ValueSet::common` meets its contract. Assumes nothing.
use Rattle.model.specs.Kit.{rules}
use Rattle.model.proofs.{Masks.common_op}
use Rattle.model.proofs.ValueSet.common.Goals as goal

pub returns : goal.returns
returns c = common_op _ _ (search rules) (search rules)
