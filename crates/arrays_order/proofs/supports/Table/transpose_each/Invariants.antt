use Rattle.model.specs.Kit.{◌*◌}
use Rattle.arrays_order.specs.Inner.Steps.{Transposed}
use Rattle.arrays_order.proofs.supports.Table.transpose_each.Given as goal

abbrev pub invariant-loop-v : goal.invariant-loop-v
invariant-loop-v l = Transposed l.self.base (16 * l.v) l.initial.supports l.supports
