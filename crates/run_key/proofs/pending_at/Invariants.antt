use Rattle.model.specs.Kit.{◌≡◌}
use Rattle.model.specs.Lists.{at}
use Rattle.arrays.specs.Inner.Places.{VARIABLES}
use Rattle.run_key.specs.Inner.Key.{Seen, Pending}
use Rattle.run_key.proofs.pending_at.Given as goal

abbrev pub invariant-loop-x : goal.invariant-loop-x
invariant-loop-x l = (l.n ≡ at l.numbers VARIABLES) × Seen l.numbers l.k l.x l.once × Pending l.numbers l.k l.x l.twice
