use Rattle.prune_pairs.proofs.{Cuts.Cutting}
use Rattle.prune_pairs.proofs.cut.Given as goal

abbrev pub invariant-loop-y : goal.invariant-loop-y
invariant-loop-y l = Cutting l.initial.sets l.cover l.sets l.changed l.y
