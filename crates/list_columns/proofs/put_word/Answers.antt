-- `put_word`: two stores. Assumes nothing.
use Rattle.model.specs.Kit.{arith, length-set}
use Rattle.list_columns.proofs.{Cells.put_two}
use Rattle.list_columns.proofs.put_word.Goals as goal

pub returns : goal.returns
returns c = put_two _ _ _ c.requires.0

pub bounds-out-next : goal.bounds-out-next
bounds-out-next c = simp length-set (omega arith)
