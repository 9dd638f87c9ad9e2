use Rattle.model.specs.Kit.{◌≤◌}
use Rattle.prune.proofs.{Copies.Differing}
use Rattle.prune.proofs.difference.Given as goal

abbrev pub invariant-loop-i : goal.invariant-loop-i
invariant-loop-i l = (l.i ≤ 16) × Differing l.old l.new l.all l.i
