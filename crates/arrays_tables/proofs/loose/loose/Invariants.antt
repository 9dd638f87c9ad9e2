use Rattle.model.specs.Kit.{◌≡◌}
use Rattle.model.specs.Lists.{at}
use Rattle.arrays.specs.Inner.Places.{VARIABLES}
use Rattle.arrays_tables.specs.Inner.Steps.{LooseSet}
use Rattle.arrays_tables.proofs.loose.loose.Given as goal

abbrev pub invariant-loop-x : goal.invariant-loop-x
invariant-loop-x l = (l.n ≡ at l.numbers VARIABLES) × LooseSet l.numbers l.tables l.x l.all
