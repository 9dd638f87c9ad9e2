use Rattle.list_columns.proofs.{Copying.ColumnsPut}
use Rattle.list_columns.proofs.put_columns.Given as goal

abbrev pub invariant-loop-x : goal.invariant-loop-x
invariant-loop-x l = ColumnsPut l.at l.rows l.variables l.plans l.initial.out l.x l.out
