use Rattle.prune_pairs.proofs.{Covers.Compared}
use Rattle.prune_pairs.proofs.exceeds.Given as goal

abbrev pub invariant-loop-y : goal.invariant-loop-y
invariant-loop-y l = Compared l.sets l.cover l.over l.y
