use Rattle.model.specs.Kit.{◌+◌, ◌%◌, ◌≤◌}
use Rattle.model.specs.Lists.{at}
use Rattle.arrays.specs.Inner.Places.{INITIAL}
use Rattle.prune.proofs.{Copies.Filled}
use Rattle.prune.proofs.initial.Given as goal

abbrev pub invariant-loop-i : goal.invariant-loop-i
invariant-loop-i l = (l.i ≤ 16) × Filled (λ x. at l.numbers (INITIAL + x) % 65536) 0 l.initial.sets l.sets l.i
