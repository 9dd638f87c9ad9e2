-- `numbers`: four numbers, one after the other. Assumes nothing.
use Rattle.model.specs.Kit.{arith}
use Rattle.model.specs.Bytes.{four_bytes}
use Rattle.export_desk.proofs.{Replies.put_four}
use Rattle.export_desk.proofs.numbers.Goals as goal

pub four-second-requires : goal.four-second-requires
unfolding four_bytes
four-second-requires c =
    (omega (arith, c.four-first.ensures.ends, c.four-first.auto.out, c.requires.0), c.requires.2)

pub four-third-requires : goal.four-third-requires
unfolding four_bytes
four-third-requires c =
    (omega (arith, c.four-second.ensures.ends, c.four-second.auto.out, c.four-first.ensures.ends, c.four-first.auto.out, c.requires.0), c.requires.3)

pub four-requires : goal.four-requires
unfolding four_bytes
four-requires c =
    (omega (arith, c.four-third.ensures.ends, c.four-third.auto.out, c.four-second.ensures.ends, c.four-second.auto.out, c.four-first.ensures.ends, c.four-first.auto.out, c.requires.0), c.requires.4)

pub returns : goal.returns
returns c =
    put_four c.args.kind c.args.a c.args.b c.args.c c.requires.0 c.four-first.ensures c.four-second.ensures c.four-third.ensures c.four.ensures
