use Rattle.arrays_order.specs.Inner.Steps.{Crossed}
use Rattle.arrays_order.proofs.supports.Table.cross.Given as goal

abbrev pub invariant-loop-w : goal.invariant-loop-w
invariant-loop-w l = Crossed l.self.base l.v l.w l.initial.supports l.supports
