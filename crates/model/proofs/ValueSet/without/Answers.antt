-- `ValueSet::without` meets its contract. Assumes nothing.
use Rattle.model.specs.Kit.{rules}
use Rattle.model.proofs.{Masks.without_op, Masks.without_none}
use Rattle.model.proofs.ValueSet.without.Goals as goal

pub returns-then-v-lt16 : goal.returns-then-v-lt16
returns-then-v-lt16 c = without_op _ _ (search rules) (search rules)

pub returns-else-v-lt16 : goal.returns-else-v-lt16
returns-else-v-lt16 c = without_none _ _ (search rules) (search rules)
