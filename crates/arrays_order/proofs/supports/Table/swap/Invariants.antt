use Rattle.arrays_order.proofs.{Swaps.Turned}
use Rattle.arrays_order.proofs.supports.Table.swap.Given as goal

abbrev pub invariant-loop-v : goal.invariant-loop-v
invariant-loop-v l = Turned l.self.base l.v l.initial.supports l.supports
