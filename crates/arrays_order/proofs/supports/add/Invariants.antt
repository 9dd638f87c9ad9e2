use Rattle.model.specs.{Inner.Filling.Filled}
use Rattle.arrays_order.specs.Inner.Steps.{Added}
use Rattle.arrays_order.proofs.supports.add.Given as goal

abbrev pub invariant-loop-w : goal.invariant-loop-w
invariant-loop-w l = Filled (λ u. u) (Added l.s l.v l.initial.columns) l.w l.initial.columns l.columns
