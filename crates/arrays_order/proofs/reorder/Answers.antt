-- The parts, one after another. Assumes nothing.
use Rattle.model.specs.Lists.{at}
use Rattle.arrays_order.proofs.{Whole.few_variables, Whole.few_values, Whole.few_constraints, Whole.few_symmetries, Whole.small, Whole.scopes, Whole.moved}
use Rattle.arrays_order.proofs.reorder.Goals as goal

pub positions-requires : goal.positions-requires
unfolding at
positions-requires c = few_variables _ _ _ _ _ c.requires.1

pub invariant_of-order : goal.invariant_of-order
unfolding at
invariant_of-order c = record { few = few_variables _ _ _ _ _ c.requires.1; small = small _ _ _ _ _ c.requires.1 }

pub rename-requires : goal.rename-requires
unfolding at
rename-requires c = few_symmetries _ _ _ _ _ c.requires.1

pub rename-requires-2 : goal.rename-requires-2
unfolding at
rename-requires-2 c = (
  few_constraints _ _ _ _ _ c.requires.1,
  few_values _ _ _ _ _ c.requires.1,
  scopes _ _ _ _ _ c.requires.1 _ _ c.positions.ensures _ c.move_sets.ensures,
)

pub returns : goal.returns
unfolding at
returns c = λ p m.
    moved p _ _ _ _ m _ _ c.positions.ensures _ c.move_sets.ensures _ _ _ c.rename.ensures c.rename-2.ensures

pub shape_of-images : goal.shape_of-images
shape_of-images c = c.rename.ensures.size
