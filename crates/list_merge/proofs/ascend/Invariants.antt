use Rattle.model.specs.Kit.{◌≡◌, ◌%◌, length}
use Rattle.model.specs.Room.{rows_in}
use Rattle.list_merge.specs.{Merge.ascends}
use Rattle.list_merge.proofs.ascend.Given as goal

abbrev pub invariant-loop-rest : goal.invariant-loop-rest
invariant-loop-rest l = (length l.rest % l.n ≡ 0) × (ascends l.order (rows_in l.n l.list) ≡ ascends l.order (rows_in l.n l.rest))

abbrev pub decreases-loop-rest : goal.decreases-loop-rest
decreases-loop-rest l = length l.rest
