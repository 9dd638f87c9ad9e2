-- The loose variables. Assumes nothing.
use Rattle.model.specs.Kit.{refl, arith}
use Rattle.model.specs.Lists.{at}
use Rattle.arrays_tables.proofs.{LooseVariables.loose_none, LooseVariables.loose_more, LooseVariables.loose_all}
use Rattle.arrays_tables.proofs.loose.loose.Goals as goal

pub loop-x-init : goal.loop-x-init
unfolding at
loop-x-init c = (refl, loose_none _ _)

pub loop-x-preserved : goal.loop-x-preserved
loop-x-preserved c = (c.loop-x.invariant.0, loose_more _ _ _ _ _ _ c.loop-x.invariant.1 c.one_if-all.ensures c.is_loose.ensures)

pub returns : goal.returns
returns c = loose_all _ _ _ _ _ (omega (arith, c.loop-x.invariant.0)) c.loop-x.invariant.1
