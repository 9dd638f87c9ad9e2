use Rattle.prune_constraints.proofs.ConstrainLoop.{SoFar, measure}
use Rattle.prune_constraints.proofs.constrain16.Given as goal

abbrev pub invariant-loop-left : goal.invariant-loop-left
invariant-loop-left l = SoFar l.numbers l.supports l.initial.sets l.todo l.sets l.left l.next l.all

abbrev pub decreases-loop-left : goal.decreases-loop-left
decreases-loop-left l = measure l.sets l.left l.next
