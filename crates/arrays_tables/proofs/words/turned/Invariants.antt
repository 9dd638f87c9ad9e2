use Rattle.model.specs.Lists.{at}
use Rattle.arrays_tables.proofs.{Lanes.TurnedSoFar}
use Rattle.arrays_tables.proofs.words.turned.Given as goal

abbrev pub invariant-loop-t : goal.invariant-loop-t
invariant-loop-t l = TurnedSoFar (at l.words) l.w l.t l.all
