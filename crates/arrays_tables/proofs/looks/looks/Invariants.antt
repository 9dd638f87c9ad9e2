use Rattle.model.specs.Kit.{◌+◌}
use Rattle.model.specs.Inner.Filling.{Filled}
use Rattle.arrays.specs.Inner.Places.{LOOKS}
use Rattle.arrays_tables.specs.Inner.Steps.{LookScopes}
use Rattle.arrays_tables.proofs.looks.looks.Given as goal

abbrev pub invariant-loop-k : goal.invariant-loop-k
invariant-loop-k l = Filled (λ i. LOOKS + i) (LookScopes l.initial.numbers) l.k l.initial.numbers l.numbers
