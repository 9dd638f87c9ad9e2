use Rattle.list_columns.proofs.{Copying.RowsPut}
use Rattle.list_columns.proofs.put_rows.Given as goal

abbrev pub invariant-loop-x : goal.invariant-loop-x
invariant-loop-x l = RowsPut l.columns l.variables l.plans l.initial.out l.x l.out
