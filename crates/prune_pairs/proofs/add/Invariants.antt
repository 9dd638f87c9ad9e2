use Rattle.prune_pairs.proofs.{Covers.Adding}
use Rattle.prune_pairs.proofs.add.Given as goal

abbrev pub invariant-loop-y : goal.invariant-loop-y
invariant-loop-y l = Adding l.initial.cover l.tables l.base l.cover l.y
