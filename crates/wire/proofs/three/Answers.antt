-- `three`: three numbers, which fill the twelve bytes. Assumes nothing.
use Rattle.model.specs.Kit.{arith}
use Rattle.model.specs.Bytes.{four_bytes}
use Rattle.wire.proofs.{Numbers.put_three}
use Rattle.wire.proofs.three.Goals as goal

pub four-second-requires : goal.four-second-requires
unfolding four_bytes
four-second-requires c =
    (omega (arith, c.four-first.ensures.ends, c.four-first.auto.out, c.requires.0), c.requires.2)

pub four-requires : goal.four-requires
unfolding four_bytes
four-requires c =
    (omega (arith, c.four-second.ensures.ends, c.four-second.auto.out, c.four-first.ensures.ends, c.four-first.auto.out, c.requires.0), c.requires.3)

pub returns : goal.returns
returns c =
    put_three c.args.kind c.args.a c.args.b c.requires.0 c.four-first.ensures c.four-second.ensures c.four.ensures
