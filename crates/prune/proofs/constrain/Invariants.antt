use Rattle.model.specs.Problem.{Problem}
use Rattle.model.proofs.Sets.{size}
use Rattle.prune.specs.Inner.Steps.{ArraysHold, Pending, PrunedSoFar}
use Rattle.prune.proofs.constrain.Given as goal

abbrev pub invariant-loop-cut : goal.invariant-loop-cut
invariant-loop-cut l =
    (p : Problem) → ArraysHold p l.supports l.tables l.numbers → Pending p l.numbers l.initial.sets l.todo l.dirty → PrunedSoFar p l.initial.sets l.sets × Pending p l.numbers l.sets l.left l.moved

abbrev pub decreases-loop-cut : goal.decreases-loop-cut
decreases-loop-cut l = size l.sets
