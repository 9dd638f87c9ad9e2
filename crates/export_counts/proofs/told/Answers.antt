-- `told`: three numbers and twelve counts, which fill the sixty bytes. Assumes nothing.
use Rattle.model.specs.Kit.{arith}
use Rattle.model.specs.Bytes.{four_bytes}
use Rattle.export_counts.proofs.{Tallied.put_counts}
use Rattle.export_counts.proofs.told.Goals as goal

pub four-second-requires : goal.four-second-requires
unfolding four_bytes
four-second-requires c =
    (omega (arith, c.four-first.ensures.ends, c.four-first.auto.out, c.requires.0), c.requires.2)

pub four-third-requires : goal.four-third-requires
unfolding four_bytes
four-third-requires c =
    (omega (arith, c.four-second.ensures.ends, c.four-second.auto.out, c.four-first.ensures.ends, c.four-first.auto.out, c.requires.0), c.requires.3)

pub numbers-requires : goal.numbers-requires
unfolding four_bytes
numbers-requires c =
    (omega (arith, c.four-third.ensures.ends, c.four-third.auto.out, c.four-second.ensures.ends, c.four-second.auto.out, c.four-first.ensures.ends, c.four-first.auto.out, c.requires.0), c.requires.4)

pub returns : goal.returns
returns c =
    put_counts c.args.kind c.args.plans c.args.nodes c.args.counts c.requires.0 c.requires.4.long c.four-first.ensures c.four-second.ensures c.four-third.ensures c.numbers.ensures

pub four-first-requires : goal.four-first-requires
four-first-requires c = (omega (arith, c.requires.0), c.requires.1)
