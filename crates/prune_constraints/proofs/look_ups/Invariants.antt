use Rattle.model.specs.Kit.{ℕ}
use Rattle.model.specs.Problem.{Problem}
use Rattle.prune_constraints.specs.Inner.LookUps.{LookUpsPending}
use Rattle.prune_constraints.proofs.LookUpLoop.{LookedSoFar}
use Rattle.prune_constraints.proofs.look_ups.Given as goal

abbrev pub invariant-loop-left : goal.invariant-loop-left
invariant-loop-left l = (p : Problem) (todo : ℕ) → LookUpsPending p l.numbers l.supports l.initial.sets l.work todo l.some l.v
    → LookedSoFar p l.numbers l.supports l.initial.sets l.sets todo l.some l.left l.all

abbrev pub decreases-loop-left : goal.decreases-loop-left
decreases-loop-left l = l.left
