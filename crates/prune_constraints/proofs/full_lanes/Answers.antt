-- The lanes that are not empty. Assumes nothing.
use Rattle.model.specs.Kit.{rules}
use Rattle.prune_constraints.proofs.{Lanes.full_lanes, Lanes.byte_fits}
use Rattle.prune_constraints.proofs.full_lanes.Goals as goal

pub returns : goal.returns
returns c = full_lanes _

pub overflow_cast-result : goal.overflow_cast-result
overflow_cast-result c = search (rules, byte_fits)
