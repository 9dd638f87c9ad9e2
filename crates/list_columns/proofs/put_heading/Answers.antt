-- `put_heading`: four numbers. Assumes nothing.
use Rattle.model.specs.Kit.{arith}
use Rattle.list_columns.proofs.{Cells.put_four}
use Rattle.list_columns.proofs.put_heading.Goals as goal

pub put_word-third-requires : goal.put_word-third-requires
put_word-third-requires c =
    omega (arith, c.put_word-second.ensures.ends, c.put_word-second.auto.out, c.requires)

pub put_word-fourth-requires : goal.put_word-fourth-requires
put_word-fourth-requires c =
    omega (arith, c.put_word-second.ensures.ends, c.put_word-second.auto.out, c.put_word-third.ensures.ends, c.put_word-third.auto.out, c.requires)

pub put_word-requires : goal.put_word-requires
put_word-requires c =
    omega (
      arith,
      c.put_word-second.ensures.ends,
      c.put_word-second.auto.out,
      c.put_word-third.ensures.ends,
      c.put_word-third.auto.out,
      c.put_word-fourth.ensures.ends,
      c.put_word-fourth.auto.out,
      c.requires,
    )

pub returns : goal.returns
returns c =
    put_four c.args.variables c.args.plans c.requires.0 c.put_word-second.ensures c.put_word-third.ensures c.put_word-fourth.ensures c.put_word.ensures
