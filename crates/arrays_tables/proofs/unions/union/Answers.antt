-- Four numbers, of which a set has some. Assumes nothing.
use Rattle.model.specs.Lists.{at}
use Rattle.arrays_tables.proofs.{UnionTables.united}
use Rattle.arrays_tables.proofs.unions.union.Goals as goal

pub returns : goal.returns
unfolding at
returns c = united _ c.args.words.now c.args.base _ _ _ _
    c.pick.ensures c.pick-2.ensures c.pick-3.ensures c.pick-4.ensures
