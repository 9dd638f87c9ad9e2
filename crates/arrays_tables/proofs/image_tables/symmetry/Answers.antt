-- The variables of a symmetry. Assumes nothing.
use Rattle.model.specs.Kit.{refl, arith}
use Rattle.model.specs.Lists.{at}
use Rattle.arrays_tables.proofs.{Images.symmetry_begin, Images.symmetry_turn, Images.symmetry_end}
use Rattle.arrays_tables.proofs.image_tables.symmetry.Goals as goal

pub loop-x-init : goal.loop-x-init
unfolding at
loop-x-init c = (refl, symmetry_begin _ _ _ _)

pub loop-x-preserved : goal.loop-x-preserved
unfolding at
loop-x-preserved c = (
  c.loop-x.invariant.0,
  symmetry_turn _ _ _ _ _ _ _ _ c.initial.ensures c.loop-x.invariant.1
      c.variable.ensures,
)

pub returns : goal.returns
returns c = symmetry_end _ _ _ _ _ _ _ (omega (arith, c.loop-x.invariant.0)) c.loop-x.invariant.1
