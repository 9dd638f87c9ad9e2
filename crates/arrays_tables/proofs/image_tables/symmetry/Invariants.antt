use Rattle.model.specs.Kit.{◌≡◌}
use Rattle.model.specs.Lists.{at}
use Rattle.arrays.specs.Inner.Places.{VARIABLES}
use Rattle.arrays_tables.specs.Inner.Steps.{SymmetryStored}
use Rattle.arrays_tables.proofs.image_tables.symmetry.Given as goal

abbrev pub invariant-loop-x : goal.invariant-loop-x
invariant-loop-x l = (l.n ≡ at l.numbers VARIABLES) × SymmetryStored l.numbers l.images l.from l.x l.initial.tables l.tables
