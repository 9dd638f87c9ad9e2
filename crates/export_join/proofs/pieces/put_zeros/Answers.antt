-- `put_zeros`: four zeros and two. Assumes nothing.
use Rattle.export_join.proofs.{Wides.zeros_put}
use Rattle.export_join.proofs.pieces.put_zeros.Goals as goal

pub returns : goal.returns
returns c =
    zeros_put c.args.out.now c.four.new.out c.four.result c.requires c.four.auto.out c.four.ensures
