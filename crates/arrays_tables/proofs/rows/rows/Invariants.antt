use Rattle.model.specs.Kit.{◌≡◌, length}
use Rattle.model.specs.{Problem.Problem, Lists.at}
use Rattle.arrays.specs.Inner.Places.{CONSTRAINTS, TABLES}
use Rattle.arrays_tables.specs.Inner.Steps.{RowsSource, RowsTo}
use Rattle.arrays_tables.proofs.rows.rows.Given as goal

abbrev pub invariant-loop-k : goal.invariant-loop-k
invariant-loop-k l = (l.c ≡ at l.numbers CONSTRAINTS) × (length l.tables ≡ TABLES) × ((p : Problem) → RowsSource p l.numbers l.supports → RowsTo p l.k l.tables)
