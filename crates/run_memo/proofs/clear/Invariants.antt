use Rattle.model.specs.Kit.{◌≤◌}
use Rattle.run_memo.proofs.{Loops.ClearedTo}
use Rattle.run_memo.proofs.clear.Given as goal

abbrev pub invariant-loop-i : goal.invariant-loop-i
invariant-loop-i l = (l.i ≤ 64) × ClearedTo l.initial.work l.i l.work
