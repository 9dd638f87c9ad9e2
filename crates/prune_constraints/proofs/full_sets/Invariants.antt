use Rattle.prune_constraints.proofs.{Sixteen.Sifting}
use Rattle.prune_constraints.proofs.full_sets.Given as goal

abbrev pub invariant-loop-left : goal.invariant-loop-left
invariant-loop-left l = Sifting l.all l.initial.left.bits l.left.bits l.full.bits

abbrev pub decreases-loop-left : goal.decreases-loop-left
decreases-loop-left l = l.left.bits
