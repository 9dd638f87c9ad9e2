-- `put_row`: the first four bytes, the next four and the last four are the row. Assumes nothing.
use Rattle.model.specs.Kit.{◌+◌, ◌-◌, arith, length}
use Rattle.list_merge.proofs.{Copying.row_put}
use Rattle.list_merge.proofs.put_row.Goals as goal

pub returns : goal.returns
returns c =
    let n = length c.args.row.now in
    row_put c.args.out.now c.args.at c.args.row.now _ _ _ (n - 4) (c.args.at + n - 4) c.requires.0 (omega arith) (omega arith) (omega arith) c.put_four.ensures
    c.put_four-2.ensures (omega arith) c.put_four-3.ensures
