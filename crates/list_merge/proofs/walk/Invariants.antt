use Rattle.model.specs.Kit.{◌+◌, length}
use Rattle.list_merge.specs.{Merge.merged_by}
use Rattle.list_merge.proofs.Walking.{Walking}
use Rattle.list_merge.proofs.walk.Given as goal

abbrev pub invariant-loop-a : goal.invariant-loop-a
invariant-loop-a l = Walking l.n l.order l.writes l.initial.out (merged_by l.n l.order l.first l.second) l.a l.b l.out l.at

abbrev pub decreases-loop-a : goal.decreases-loop-a
decreases-loop-a l = length l.a + length l.b
