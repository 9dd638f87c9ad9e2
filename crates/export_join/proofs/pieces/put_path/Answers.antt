-- `put_path`: the thirteen bytes are those of the path. Assumes nothing.
use Rattle.model.specs.Kit.{arith}
use Rattle.export_join.proofs.{Wides.path_put}
use Rattle.export_join.proofs.pieces.put_path.Goals as goal

pub returns : goal.returns
returns c =
    path_put c.args.start c.args.l.now c.args.o _ c.requires.1 (omega arith) c.put.ensures
