-- `filter::entry::equality` meets its contract. Assumes nothing.
use Rattle.model.specs.Kit.{arith}
use Rattle.model.specs.Lists.{at}
use Rattle.filter.proofs.{Steps.keep_next, Steps.keep_obeyed, Steps.keep_split}
use Rattle.filter.proofs.entry.equality.Goals as goal

pub returns-then-is_empty : goal.returns-then-is_empty
unfolding at
returns-then-is_empty c =
    keep_next c.args.sets.now c.args.x c.args.v c.without-others.result.bits c.without-others.ensures c.is_empty.result c.is_empty.ensures c.if-is_empty.true

pub returns-then-others-set : goal.returns-then-others-set
unfolding at
returns-then-others-set c =
    keep_obeyed c.args.sets.now c.args.x c.args.v c.without-others.result.bits c.without-others.ensures c.is_empty.result c.is_empty.ensures c.if-is_empty.false c.if-others-set.true

pub returns-else-others-set : goal.returns-else-others-set
unfolding at
returns-else-others-set c =
    keep_split c.args.sets.now c.args.x c.args.v c.without-others.result.bits c.without-others.ensures (omega arith) c.is_empty.result c.is_empty.ensures c.if-is_empty.false c.if-others-set.false
