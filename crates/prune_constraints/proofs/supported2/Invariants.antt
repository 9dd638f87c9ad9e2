use Rattle.model.specs.Kit.{◌^◌, ◌<◌}
use Rattle.prune_constraints.proofs.{Unions.Supporting2}
use Rattle.prune_constraints.proofs.supported2.Given as goal

abbrev pub invariant-loop-b : goal.invariant-loop-b
invariant-loop-b l = (l.last.bits < 2 ^ 16) × Supporting2 l.supports l.base l.initial.left.bits l.b.bits l.left.bits l.first.bits l.last.bits

abbrev pub decreases-loop-b : goal.decreases-loop-b
decreases-loop-b l = l.left.bits
