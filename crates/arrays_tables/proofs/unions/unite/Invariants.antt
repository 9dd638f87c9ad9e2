use Rattle.model.specs.Kit.{◌+◌, ◌*◌, ◌/◌, ◌%◌}
use Rattle.model.specs.Inner.Filling.{Filled}
use Rattle.arrays.specs.Inner.Places.{UNIONS}
use Rattle.arrays_tables.specs.Inner.Steps.{Unioned}
use Rattle.arrays_tables.proofs.unions.unite.Given as goal

abbrev pub invariant-loop-c : goal.invariant-loop-c
invariant-loop-c l = Filled (λ j. UNIONS + 64 * l.k + j) (λ j. Unioned l.supports l.k (j / 16) (j % 16)) l.c l.initial.numbers l.numbers
