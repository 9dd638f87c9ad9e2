use Rattle.model.specs.Kit.{◌≡◌, ◌+◌, ◌-◌, ◌^◌, bit_and}
use Rattle.model.specs.{Lists.at, Inner.Filling.Filled}
use Rattle.arrays.specs.Inner.Places.{OTHERS}
use Rattle.arrays_tables.proofs.linked.others.Given as goal

abbrev pub invariant-loop-x : goal.invariant-loop-x
invariant-loop-x l = Filled (λ y. OTHERS + y) (λ y r. r ≡ bit_and (at l.initial.numbers y) ((2 ^ 64 - 1) - l.set)) l.x l.initial.numbers l.numbers
