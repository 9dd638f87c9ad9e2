-- One symmetry after another. Assumes nothing.
use Rattle.model.specs.Kit.{rules}
use Rattle.arrays_order.proofs.{Moves.images_begin, Moves.images_turn, Moves.images_end}
use Rattle.arrays_order.proofs.images.rename.Goals as goal

pub loop-e-init : goal.loop-e-init
loop-e-init c = images_begin _ _ _ _

pub loop-e-preserved : goal.loop-e-preserved
loop-e-preserved c = images_turn _ _ _ _ _ _ _ (search rules) c.loop-e.invariant c.symmetry.ensures

pub returns : goal.returns
returns c = images_end _ _ _ _ _ _ _ (search rules) (search rules) c.loop-e.invariant

pub shape_of-images : goal.shape_of-images
shape_of-images c = c.loop-e.invariant.size
