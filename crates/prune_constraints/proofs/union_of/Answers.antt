-- The union of the lanes. Assumes nothing.
use Rattle.model.specs.Kit.{rules}
use Rattle.prune_constraints.proofs.{Lanes.lane_union, Lanes.byte_fits}
use Rattle.prune_constraints.proofs.union_of.Goals as goal

pub returns : goal.returns
returns c = lane_union _

pub overflow_cast-result : goal.overflow_cast-result
overflow_cast-result c = search (rules, byte_fits)
