use Rattle.model.specs.Kit.{◌≡◌, ℕ, ◌<◌, length}
use Rattle.model.specs.Lists.{at}
use Rattle.run_task.proofs.by_position.Given as goal

abbrev pub invariant-loop-k : goal.invariant-loop-k
invariant-loop-k l = (length l.order ≡ 16) × ((j : ℕ) → j < l.k → at l.order j ≡ j)
