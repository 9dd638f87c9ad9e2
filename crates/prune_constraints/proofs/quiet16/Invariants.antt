use Rattle.prune_constraints.proofs.{Unions.Passing}
use Rattle.prune_constraints.proofs.quiet16.Given as goal

abbrev pub invariant-loop-left : goal.invariant-loop-left
invariant-loop-left l = Passing l.supports l.base l.initial.left.bits l.e.bits l.left.bits l.all

abbrev pub decreases-loop-left : goal.decreases-loop-left
decreases-loop-left l = l.left.bits
