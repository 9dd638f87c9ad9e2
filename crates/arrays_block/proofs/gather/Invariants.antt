use Rattle.model.specs.Kit.{◌≤◌}
use Rattle.model.specs.{Lists.at, Inner.Filling.Gathered}
use Rattle.block.specs.Block.{in_block}
use Rattle.arrays_block.proofs.gather.Given as goal

abbrev pub invariant-loop-i : goal.invariant-loop-i
invariant-loop-i l = (l.i ≤ l.n) × Gathered (λ i'. in_block l.first l.m (at l.order i')) l.i l.set
