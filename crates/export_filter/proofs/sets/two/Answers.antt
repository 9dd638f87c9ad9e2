-- `two`: two stores. Assumes nothing.
use Rattle.model.specs.Kit.{arith, length-set}
use Rattle.wire.proofs.Numbers.{put_two}
use Rattle.export_filter.proofs.sets.two.Goals as goal

pub returns : goal.returns
returns c = put_two _ _ _ _ c.requires

pub bounds-out-next : goal.bounds-out-next
bounds-out-next c = simp length-set (omega arith)
