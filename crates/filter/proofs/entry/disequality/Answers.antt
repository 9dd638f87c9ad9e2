-- `filter::entry::disequality` meets its contract. Assumes nothing.
use Rattle.model.specs.Lists.{at}
use Rattle.filter.proofs.{Steps.cut_failed, Steps.cut_next}
use Rattle.filter.proofs.entry.disequality.Goals as goal

pub returns-then-is_empty : goal.returns-then-is_empty
unfolding at
returns-then-is_empty c =
    cut_failed c.args.sets.now c.args.x c.args.v c.without-left.result.bits c.without-left.ensures c.is_empty.result c.is_empty.ensures c.if-is_empty.true

pub returns-else-is_empty : goal.returns-else-is_empty
unfolding at
returns-else-is_empty c =
    cut_next c.args.sets.now c.args.x c.args.v c.without-left.result.bits c.without-left.ensures c.is_empty.result c.is_empty.ensures c.if-is_empty.false
