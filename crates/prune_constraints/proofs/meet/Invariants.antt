use Rattle.model.specs.Kit.{◌≤◌}
use Rattle.prune_constraints.proofs.{Sixteen.Meeting}
use Rattle.prune_constraints.proofs.meet.Given as goal

abbrev pub invariant-loop-v : goal.invariant-loop-v
invariant-loop-v l = (l.v ≤ 16) × Meeting l.supports l.base l.masks l.initial.all l.v l.all l.some
