use Rattle.model.specs.Kit.{◌+◌, ◌*◌, ◌≤◌}
use Rattle.prune.proofs.{Copies.Filled}
use Rattle.prune.proofs.clear_marks.Given as goal

abbrev pub invariant-loop-e : goal.invariant-loop-e
invariant-loop-e l = (l.e ≤ 16) × Filled (λ i. 0) (16 * (l.k + 1)) l.initial.work l.work l.e
