-- `refused_line`: the word, two numbers of at most 20 digits, and the newline. Assumes nothing.
use Rattle.model.specs.Kit.{arith}
use Rattle.model.proofs.Written.{fronted}
use Rattle.report.proofs.{Lines.field_most, Lines.put_two}
use Rattle.report.proofs.refused_line.Goals as goal

pub put_number-numbered-requires : goal.put_number-numbered-requires
put_number-numbered-requires c =
    omega (arith, field_most c.args.number, field_most c.args.item, c.put-word.ensures.ends, c.put-word.auto.out, c.requires)

pub put_number-ended-requires : goal.put_number-ended-requires
put_number-ended-requires c =
    omega (arith, field_most c.args.number, field_most c.args.item, c.put-word.ensures.ends, c.put-word.auto.out, c.put_number-numbered.ensures.ends, c.put_number-numbered.auto.out, c.requires)

pub put_byte-requires : goal.put_byte-requires
put_byte-requires c =
    omega (
      arith,
      field_most c.args.number,
      field_most c.args.item,
      c.put-word.ensures.ends,
      c.put-word.auto.out,
      c.put_number-numbered.ensures.ends,
      c.put_number-numbered.auto.out,
      c.put_number-ended.ensures.ends,
      c.put_number-ended.auto.out,
      c.requires,
    )

pub returns : goal.returns
returns c =
    fronted
    (put_two c.args.number c.args.item
    (omega (arith, field_most c.args.number, field_most c.args.item, c.put-word.ensures.ends, c.put_number-numbered.ensures.ends, c.put_number-ended.ensures.ends, c.requires))
    c.put-word.ensures
    c.put_number-numbered.ensures
    c.put_number-ended.ensures
    c.put_byte.ensures)
