use Rattle.model.specs.Kit.{not, ◌≡◌, eqb, bit_and}
use Rattle.model.specs.{Lists.at, Inner.Filling.Gathered}
use Rattle.arrays.specs.Inner.Places.{VARIABLES}
use Rattle.arrays_tables.proofs.linked.variables_of.Given as goal

abbrev pub invariant-loop-x : goal.invariant-loop-x
invariant-loop-x l = (l.n ≡ at l.numbers VARIABLES) × Gathered (λ y. not (eqb (bit_and (at l.numbers y) l.set) 0)) l.x l.all
