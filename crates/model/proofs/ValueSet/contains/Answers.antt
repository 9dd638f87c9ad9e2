-- `ValueSet::contains` meets its contract. Assumes nothing.
use Rattle.model.specs.Kit.{sym, rules}
use Rattle.model.proofs.{Masks.contains_op, Sets.has_out}
use Rattle.model.proofs.ValueSet.contains.Goals as goal

pub returns-then-v-lt16 : goal.returns-then-v-lt16
returns-then-v-lt16 c = contains_op _ _

pub returns-else-v-lt16 : goal.returns-else-v-lt16
returns-else-v-lt16 c = sym (has_out 16 _ _ (search rules) (search rules))
