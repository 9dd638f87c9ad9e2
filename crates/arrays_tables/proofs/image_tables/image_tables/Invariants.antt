use Rattle.model.specs.Kit.{◌≡◌}
use Rattle.model.specs.Lists.{at}
use Rattle.arrays.specs.Inner.Places.{SYMMETRIES, VARIABLES}
use Rattle.arrays_tables.specs.Inner.Steps.{SymmetriesStored}
use Rattle.arrays_tables.proofs.image_tables.image_tables.Given as goal

abbrev pub invariant-loop-e : goal.invariant-loop-e
invariant-loop-e l = (l.g ≡ at l.numbers SYMMETRIES) × SymmetriesStored l.numbers l.images (at l.numbers VARIABLES) l.e l.initial.tables l.tables
