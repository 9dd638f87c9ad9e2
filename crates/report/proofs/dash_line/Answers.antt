-- `dash_line`: the word, two numbers of at most 20 digits, and the dash. Assumes nothing.
use Rattle.model.specs.Kit.{arith}
use Rattle.model.proofs.Written.{fronted}
use Rattle.report.proofs.{Lines.field_most, Lines.put_dash}
use Rattle.report.proofs.dash_line.Goals as goal

pub put_number-listed-requires : goal.put_number-listed-requires
put_number-listed-requires c =
    omega (arith, field_most c.args.plans, c.put-word_end.ensures.ends, c.put-word_end.auto.out, c.requires)

pub put_number-made-requires : goal.put_number-made-requires
put_number-made-requires c =
    omega (arith, field_most c.args.plans, field_most c.args.nodes, c.put-word_end.ensures.ends, c.put-word_end.auto.out, c.put_number-listed.ensures.ends, c.put_number-listed.auto.out, c.requires)

pub put-requires : goal.put-requires
put-requires c =
    omega (
      arith,
      field_most c.args.plans,
      field_most c.args.nodes,
      c.put-word_end.ensures.ends,
      c.put-word_end.auto.out,
      c.put_number-listed.ensures.ends,
      c.put_number-listed.auto.out,
      c.put_number-made.ensures.ends,
      c.put_number-made.auto.out,
      c.requires,
    )

pub returns : goal.returns
returns c =
    fronted
    (put_dash c.args.plans c.args.nodes
    (omega (arith, field_most c.args.plans, field_most c.args.nodes, c.put-word_end.ensures.ends, c.put_number-listed.ensures.ends, c.put_number-made.ensures.ends, c.requires))
    c.put-word_end.ensures
    c.put_number-listed.ensures
    c.put_number-made.ensures
    c.put.ensures)
