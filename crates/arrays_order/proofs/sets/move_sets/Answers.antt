-- Twice sixteen numbers. Assumes nothing.
use Rattle.model.specs.Kit.{rules}
use Rattle.arrays_order.proofs.{Moves.moved_sets}
use Rattle.arrays_order.proofs.sets.move_sets.Goals as goal

pub returns : goal.returns
returns c = moved_sets _ _ _ _ _ (search rules) c.args.order.small c.spread.ensures c.spread-2.ensures
