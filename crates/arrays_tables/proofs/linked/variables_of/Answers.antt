-- The variables of a set of constraints. Assumes nothing.
use Rattle.model.specs.Kit.{refl, arith}
use Rattle.model.specs.{Lists.at}
use Rattle.model.proofs.Filling.{gathered_begin, gathered_turn, gathered_end}
use Rattle.arrays_tables.proofs.linked.variables_of.Goals as goal

pub loop-x-init : goal.loop-x-init
unfolding at
loop-x-init c = (refl, gathered_begin _)

pub loop-x-preserved : goal.loop-x-preserved
unfolding at
loop-x-preserved c = (refl, gathered_turn _ _ _ _ c.loop-x.invariant.1 c.one_if-all.ensures)

pub returns : goal.returns
returns c = gathered_end _ _ _ _ (omega (arith, c.loop-x.invariant.0)) (omega (arith, c.loop-x.invariant.0)) c.loop-x.invariant.1
