-- `ValueSet::only` meets its contract. Assumes nothing.
use Rattle.model.specs.Kit.{rules}
use Rattle.model.proofs.{Masks.only_op, Masks.only_none}
use Rattle.model.proofs.ValueSet.only.Goals as goal

pub returns-then-v-lt16 : goal.returns-then-v-lt16
returns-then-v-lt16 c = only_op _ _ (search rules) (search rules)

pub returns-else-v-lt16 : goal.returns-else-v-lt16
returns-else-v-lt16 c = only_none _ _ (search rules)
