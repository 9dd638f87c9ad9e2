-- `ValueSet::without_lowest` meets its contract. Assumes nothing.
use Rattle.model.specs.Kit.{rules}
use Rattle.model.proofs.{Members.without_lowest_none, Members.without_lowest_op}
use Rattle.model.proofs.ValueSet.without_lowest.Goals as goal

pub returns-then-self-eq0 : goal.returns-then-self-eq0
returns-then-self-eq0 c = without_lowest_none _ (search rules)

pub returns-else-self-eq0 : goal.returns-else-self-eq0
returns-else-self-eq0 c = without_lowest_op _ (search rules)
