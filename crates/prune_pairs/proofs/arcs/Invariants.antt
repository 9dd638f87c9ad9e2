use Rattle.model.specs.Kit.{◌+◌, ◌*◌, ◌^◌}
use Rattle.model.specs.{Problem.Problem}
use Rattle.model.proofs.Sets.{size}
use Rattle.prune_pairs.specs.Inner.Links.{ArcsPending}
use Rattle.prune_pairs.proofs.ArcsLoop.{ArcsSoFar}
use Rattle.prune_pairs.proofs.arcs.Given as goal

abbrev pub invariant-loop-left : goal.invariant-loop-left
invariant-loop-left l = (p : Problem) → ArcsPending p l.numbers l.tables l.initial.sets l.dirty → ArcsSoFar p l.initial.sets l.sets l.left l.all l.low

abbrev pub decreases-loop-left : goal.decreases-loop-left
decreases-loop-left l = size l.sets * 2 ^ 64 + l.left
