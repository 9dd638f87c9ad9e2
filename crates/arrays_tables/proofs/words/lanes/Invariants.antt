use Rattle.model.specs.Kit.{◌+◌, ◌*◌}
use Rattle.model.specs.Lists.{at}
use Rattle.arrays_tables.proofs.{Lanes.LanesSoFar}
use Rattle.arrays_tables.proofs.words.lanes.Given as goal

abbrev pub invariant-loop-t : goal.invariant-loop-t
invariant-loop-t l = LanesSoFar (λ u. at l.supports (l.base + 16 * u)) l.t l.all
