use Rattle.model.specs.Kit.{◌≡◌, ◌-◌, ◌≤◌}
use Rattle.run_join.specs.Join.{path_at, best_of, head_number}
use Rattle.run_join.proofs.steps.best_from.Given as goal

abbrev pub invariant-loop-next : goal.invariant-loop-next
invariant-loop-next l = (head_number l.best ≡ best_of l.l (path_at l.here 0) l.k) × (head_number l.best ≤ l.k) × (l.k ≤ l.n)

abbrev pub decreases-loop-next : goal.decreases-loop-next
decreases-loop-next l = l.n - l.k
