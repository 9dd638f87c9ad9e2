-- `four`: four stores. Assumes nothing.
use Rattle.model.specs.Kit.{arith, length-set}
use Rattle.model.specs.Bytes.{four_bytes}
use Rattle.wire.proofs.{Numbers.put_four}
use Rattle.wire.proofs.four.Goals as goal

pub returns : goal.returns
unfolding four_bytes
returns c = put_four _ _ _ _ _ _ c.requires.0

pub bounds-out-second : goal.bounds-out-second
bounds-out-second c = simp length-set (omega arith)

pub bounds-out-third : goal.bounds-out-third
bounds-out-third c = simp length-set (omega arith)

pub bounds-out-fourth : goal.bounds-out-fourth
bounds-out-fourth c = simp length-set (omega arith)
