-- `plan_line`: the word, the row, and the newline. Assumes nothing.
use Rattle.model.specs.Kit.{arith}
use Rattle.report.proofs.{Lines.line_length, Lines.put_line}
use Rattle.report.proofs.plan_line.Goals as goal

pub put-word-requires : goal.put-word-requires
put-word-requires c = omega (arith, line_length c.args.row.now, c.requires)

pub put_row-values-requires : goal.put_row-values-requires
put_row-values-requires c =
    omega (arith, line_length c.args.row.now, c.put-word.ensures.ends, c.put-word.auto.out, c.requires)

pub put_byte-requires : goal.put_byte-requires
put_byte-requires c =
    omega (arith, line_length c.args.row.now, c.put-word.ensures.ends, c.put-word.auto.out, c.put_row-values.ensures.ends, c.put_row-values.auto.out, c.requires)

pub returns : goal.returns
returns c =
    put_line c.args.row.now (omega (arith, line_length c.args.row.now, c.put_row-values.ensures.ends, c.put-word.ensures.ends, c.requires)) c.put-word.ensures c.put_row-values.ensures
    c.put_byte.ensures
