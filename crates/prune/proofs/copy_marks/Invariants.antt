use Rattle.model.specs.Kit.{◌+◌, ◌*◌, ◌≤◌}
use Rattle.model.specs.Lists.{at}
use Rattle.arrays.specs.Inner.Places.{MARKS}
use Rattle.prune.proofs.{Copies.Filled}
use Rattle.prune.proofs.copy_marks.Given as goal

abbrev pub invariant-loop-e : goal.invariant-loop-e
invariant-loop-e l = (l.e ≤ 16) × Filled (λ i. at l.initial.work (16 * l.k + MARKS + i)) (16 * (l.k + 2)) l.initial.work l.work l.e
