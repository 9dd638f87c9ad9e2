use Rattle.model.specs.Kit.{◌≤◌, ◌<◌}
use Rattle.run_entry.proofs.{Loops.TakenTo}
use Rattle.run_entry.proofs.take.Given as goal

abbrev pub invariant-loop-x : goal.invariant-loop-x
invariant-loop-x l = (l.k ≤ l.x) × (l.k < 13) × TakenTo l.initial.work l.k l.s l.x l.work
