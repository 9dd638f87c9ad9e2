-- `put_name`: four digests, one behind the other. Assumes nothing.
use Rattle.model.specs.Kit.{arith}
use Rattle.model.specs.Bytes.{four_bytes}
use Rattle.export_parts.proofs.{Pieces.name_put}
use Rattle.export_parts.proofs.heads.put_name.Goals as goal

pub four-third-requires : goal.four-third-requires
unfolding four_bytes
four-third-requires c =
    (omega (arith, c.four-second.ensures.ends, c.four-second.auto.out, c.requires), omega (arith, c.digest-2.ensures.1))

pub four-fourth-requires : goal.four-fourth-requires
unfolding four_bytes
four-fourth-requires c =
    (omega (arith, c.four-third.ensures.ends, c.four-third.auto.out, c.four-second.ensures.ends, c.four-second.auto.out, c.requires), omega (arith, c.digest-3.ensures.1))

pub four-requires : goal.four-requires
unfolding four_bytes
four-requires c = (
  omega (arith, c.four-fourth.ensures.ends, c.four-fourth.auto.out, c.four-third.ensures.ends, c.four-third.auto.out, c.four-second.ensures.ends, c.four-second.auto.out, c.requires),
  omega (arith, c.digest-4.ensures.1),
)

pub returns : goal.returns
returns c =
    name_put c.args.sheet.now c.args.pairs.now c.args.block.now c.digest.result c.digest-2.result c.digest-3.result
    c.digest-4.result c.requires
    c.digest.ensures.0 c.digest-2.ensures.0 c.digest-3.ensures.0 c.digest-4.ensures.0
    c.four-second.ensures c.four-third.ensures c.four-fourth.ensures c.four.ensures
