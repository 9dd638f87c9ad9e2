use Rattle.prune_symmetries.proofs.{Cuts.Missing}
use Rattle.prune_symmetries.proofs.hits.Given as goal

abbrev pub invariant-loop-y : goal.invariant-loop-y
invariant-loop-y l = Missing l.sets l.tables l.first l.hit l.y
