use Rattle.prune_symmetries.proofs.{Cuts.Taking}
use Rattle.prune_symmetries.proofs.take.Given as goal

abbrev pub invariant-loop-y : goal.invariant-loop-y
invariant-loop-y l = Taking l.sets l.tables l.first l.left l.empty l.y
