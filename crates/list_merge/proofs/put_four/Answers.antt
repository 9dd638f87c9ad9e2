-- `put_four`: four stores are one text. Assumes nothing.
use Rattle.model.specs.Kit.{arith, length-set}
use Rattle.list_merge.proofs.{Copying.four}
use Rattle.list_merge.proofs.put_four.Goals as goal

pub returns : goal.returns
returns c = four c.args.out.now c.args.to c.args.row.now c.args.from c.requires.0 c.requires.1

pub bounds-out-to-2 : goal.bounds-out-to-2
bounds-out-to-2 c = simp length-set (omega arith)

pub bounds-out-to-3 : goal.bounds-out-to-3
bounds-out-to-3 c = simp length-set (omega arith)

pub bounds-out-to-4 : goal.bounds-out-to-4
bounds-out-to-4 c = simp length-set (omega arith)
