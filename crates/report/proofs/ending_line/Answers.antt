-- `ending_line`: the word, three numbers of at most 20 digits, and the newline. Assumes nothing.
use Rattle.model.specs.Kit.{arith}
use Rattle.model.proofs.Written.{fronted}
use Rattle.report.proofs.{Lines.field_most, Lines.put_three}
use Rattle.report.proofs.ending_line.Goals as goal

pub put_number-listed-requires : goal.put_number-listed-requires
put_number-listed-requires c =
    omega (arith, field_most c.args.plans, c.put-word_end.ensures.ends, c.put-word_end.auto.out, c.requires)

pub put_number-made-requires : goal.put_number-made-requires
put_number-made-requires c =
    omega (arith, field_most c.args.plans, field_most c.args.nodes, c.put-word_end.ensures.ends, c.put-word_end.auto.out, c.put_number-listed.ensures.ends, c.put_number-listed.auto.out, c.requires)

pub put_number-counted-requires : goal.put_number-counted-requires
put_number-counted-requires c =
    omega (
      arith,
      field_most c.args.plans,
      field_most c.args.nodes,
      field_most c.args.families,
      c.put-word_end.ensures.ends,
      c.put-word_end.auto.out,
      c.put_number-listed.ensures.ends,
      c.put_number-listed.auto.out,
      c.put_number-made.ensures.ends,
      c.put_number-made.auto.out,
      c.requires,
    )

pub put_byte-requires : goal.put_byte-requires
put_byte-requires c =
    omega (
      arith,
      field_most c.args.plans,
      field_most c.args.nodes,
      field_most c.args.families,
      c.put-word_end.ensures.ends,
      c.put-word_end.auto.out,
      c.put_number-listed.ensures.ends,
      c.put_number-listed.auto.out,
      c.put_number-made.ensures.ends,
      c.put_number-made.auto.out,
      c.put_number-counted.ensures.ends,
      c.put_number-counted.auto.out,
      c.requires,
    )

pub returns : goal.returns
returns c =
    fronted
    (put_three c.args.plans c.args.nodes c.args.families
    (omega (
      arith,
      field_most c.args.plans,
      field_most c.args.nodes,
      field_most c.args.families,
      c.put-word_end.ensures.ends,
      c.put_number-listed.ensures.ends,
      c.put_number-made.ensures.ends,
      c.put_number-counted.ensures.ends,
      c.requires,
    ))
    c.put-word_end.ensures
    c.put_number-listed.ensures
    c.put_number-made.ensures
    c.put_number-counted.ensures
    c.put_byte.ensures)
