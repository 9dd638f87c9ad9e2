use Rattle.arrays_order.proofs.{Loops.Columns}
use Rattle.arrays_order.proofs.supports.gather.Given as goal

abbrev pub invariant-loop-v : goal.invariant-loop-v
invariant-loop-v l = Columns l.base l.supports l.v l.columns
