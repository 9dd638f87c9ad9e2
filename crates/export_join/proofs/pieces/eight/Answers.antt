-- `eight`: two halves. Assumes nothing.
use Rattle.model.specs.Kit.{refl, arith}
use Rattle.model.specs.{Bytes.four_bytes}
use Rattle.export_join.proofs.{Wides.eight_put}
use Rattle.export_join.proofs.pieces.eight.Goals as goal

pub four-requires : goal.four-requires
unfolding four_bytes
four-requires c =
    (omega (arith, c.four-next.ensures.ends, c.four-next.auto.out, c.requires), omega arith)

pub returns : goal.returns
returns c =
    eight_put c.args.at c.args.x _ _ c.requires refl refl c.four-next.ensures c.four.ensures
