-- One variable after another. Assumes nothing.
use Rattle.model.specs.Kit.{refl, arith, rules}
use Rattle.model.proofs.Filling.{filled_begin, filled_turn, filled_end}
use Rattle.arrays_order.proofs.places.positions.Goals as goal

pub loop-x-init : goal.loop-x-init
loop-x-init c = filled_begin _ _ _

pub loop-x-preserved : goal.loop-x-preserved
loop-x-preserved c = filled_turn _ _ _ _ _ _ _ c.loop-x.invariant refl (omega arith) (λ v l e. omega arith) c.position.ensures.0

pub returns : goal.returns
returns c = filled_end _ _ _ _ _ _ (search rules) (search rules) c.loop-x.invariant
