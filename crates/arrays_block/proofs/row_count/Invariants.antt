use Rattle.model.specs.Kit.{◌≡◌, ◌≤◌}
use Rattle.block.specs.Block.{factorial}
use Rattle.arrays_block.proofs.row_count.Given as goal

abbrev pub invariant-loop-k : goal.invariant-loop-k
invariant-loop-k l = (1 ≤ l.k) × (l.k ≤ l.m) × (l.count ≡ factorial l.k)
