use Rattle.model.specs.Kit.{◌≡◌}
use Rattle.model.specs.{Lists.at}
use Rattle.arrays.specs.Inner.Places.{VARIABLES}
use Rattle.arrays_tables.specs.Inner.Steps.{initial_of, LooseTo}
use Rattle.arrays_tables.proofs.loose.is_loose.Given as goal

abbrev pub invariant-loop-y : goal.invariant-loop-y
invariant-loop-y l = (l.n ≡ at l.numbers VARIABLES) × (l.m.bits ≡ initial_of l.numbers l.x) × LooseTo l.numbers l.tables l.x l.y
