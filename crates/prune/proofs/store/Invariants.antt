use Rattle.model.specs.Kit.{◌*◌, ◌≤◌}
use Rattle.model.specs.Lists.{at}
use Rattle.prune.proofs.{Copies.Filled}
use Rattle.prune.proofs.store.Given as goal

abbrev pub invariant-loop-i : goal.invariant-loop-i
invariant-loop-i l = (l.i ≤ 16) × Filled (at l.sets) (16 * l.k) l.initial.stack l.stack l.i
