-- The symmetries. Assumes nothing.
use Rattle.model.specs.Kit.{refl, arith}
use Rattle.model.specs.Lists.{at}
use Rattle.arrays_tables.proofs.{Images.symmetries_begin, Images.symmetries_turn, Images.symmetries_end}
use Rattle.arrays_tables.proofs.image_tables.image_tables.Goals as goal

pub loop-e-init : goal.loop-e-init
unfolding at
loop-e-init c = (refl, symmetries_begin _ _ _ _)

pub loop-e-preserved : goal.loop-e-preserved
loop-e-preserved c = (c.loop-e.invariant.0, symmetries_turn _ _ _ _ _ _ _ (omega arith) c.loop-e.invariant.1 c.symmetry.ensures)

pub returns : goal.returns
returns c = symmetries_end _ _ _ _ _ _ _ (omega (arith, c.loop-e.invariant.0)) c.loop-e.invariant.1

pub symmetry-requires : goal.symmetry-requires
symmetry-requires c = (omega arith, omega arith)
