-- `ValueSet::full` meets its contract. Assumes nothing.
use Rattle.model.specs.Kit.{rules}
use Rattle.model.proofs.{Masks.full_op, Masks.full_all, Masks.shl_pos}
use Rattle.model.proofs.ValueSet.full.Goals as goal

pub returns-then-width-lt16 : goal.returns-then-width-lt16
returns-then-width-lt16 c = full_op _ (search rules)

pub returns-else-width-lt16 : goal.returns-else-width-lt16
returns-else-width-lt16 c = full_all _ (search rules)

pub overflow_sub-result : goal.overflow_sub-result
overflow_sub-result c = shl_pos _ (search rules)
