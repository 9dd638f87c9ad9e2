use Rattle.model.specs.Kit.{◌≡◌}
use Rattle.run_task.specs.Inner.Task.{ordered}
use Rattle.run_task.proofs.put_order.Given as goal

abbrev pub invariant-loop-k : goal.invariant-loop-k
invariant-loop-k l = l.numbers ≡ ordered l.order l.k l.initial.numbers
