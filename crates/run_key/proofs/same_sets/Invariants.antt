use Rattle.model.specs.Kit.{◌≡◌, ◌≤◌}
use Rattle.model.specs.Lists.{at}
use Rattle.arrays.specs.Inner.Places.{VARIABLES}
use Rattle.run_key.specs.Inner.Key.{SameSets}
use Rattle.run_key.proofs.same_sets.Given as goal

abbrev pub invariant-loop-x : goal.invariant-loop-x
invariant-loop-x l = (l.n ≡ at l.numbers VARIABLES) × (l.n ≤ 12) × SameSets l.stack l.numbers l.work l.k l.x l.pending l.low l.s
