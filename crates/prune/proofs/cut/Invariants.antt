use Rattle.prune.proofs.{BlockCut.Cutting}
use Rattle.prune.proofs.cut.Given as goal

abbrev pub invariant-loop-left : goal.invariant-loop-left
invariant-loop-left l = Cutting l.some l.v l.initial.sets l.sets l.left l.changed

abbrev pub decreases-loop-left : goal.decreases-loop-left
decreases-loop-left l = l.left
