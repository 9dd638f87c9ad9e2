use Rattle.model.specs.Kit.{◌≤◌}
use Rattle.run_key.proofs.entry_for.Given as goal

abbrev pub invariant-loop-x : goal.invariant-loop-x
invariant-loop-x l = l.n ≤ 12
