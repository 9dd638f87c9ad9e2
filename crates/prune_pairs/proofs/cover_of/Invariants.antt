use Rattle.prune_pairs.proofs.{Covers.Covering}
use Rattle.prune_pairs.proofs.cover_of.Given as goal

abbrev pub invariant-loop-left : goal.invariant-loop-left
invariant-loop-left l = Covering l.tables l.x l.initial.left.bits l.cover l.left.bits

abbrev pub decreases-loop-left : goal.decreases-loop-left
decreases-loop-left l = l.left.bits
