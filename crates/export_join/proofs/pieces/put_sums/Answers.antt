-- `put_sums`: numbers one behind the other. Assumes nothing.
use Rattle.model.specs.Kit.{arith}
use Rattle.model.specs.Bytes.{four_bytes}
use Rattle.export_join.proofs.{Wides.sums_put, Wides.eight_ends}
use Rattle.export_join.proofs.pieces.put_sums.Goals as goal

pub four-second-requires : goal.four-second-requires
unfolding four_bytes
four-second-requires c =
    (omega (arith, c.four-first.ensures.ends, c.four-first.auto.out, c.requires.0), omega arith)

pub eight-third-requires : goal.eight-third-requires
unfolding four_bytes
eight-third-requires c =
    omega (arith, c.four-second.ensures.ends, c.four-second.auto.out, c.four-first.ensures.ends, c.four-first.auto.out, c.requires.0)

pub eight-requires : goal.eight-requires
unfolding four_bytes
eight-requires c =
    omega (
      arith,
      eight_ends c.args.plans c.eight-third.ensures,
      c.eight-third.auto.out,
      c.four-second.ensures.ends,
      c.four-second.auto.out,
      c.four-first.ensures.ends,
      c.four-first.auto.out,
      c.requires.0,
    )

pub returns : goal.returns
returns c =
    sums_put c.args.kind c.args.plans c.args.nodes _ c.requires.0 c.four-first.ensures c.four-second.ensures c.eight-third.ensures c.eight.ensures c.put_counts.ensures
