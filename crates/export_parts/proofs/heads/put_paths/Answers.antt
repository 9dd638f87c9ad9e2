-- `put_paths`: three paths, one behind the other. Assumes nothing.
use Rattle.model.specs.Kit.{refl}
use Rattle.export_parts.proofs.{Pieces.paths_put}
use Rattle.export_parts.proofs.heads.put_paths.Goals as goal

pub returns : goal.returns
returns c =
    paths_put c.args.from.now c.args.upto.now c.args.last.now c.args.n _ _ c.requires refl refl c.put_path.ensures c.put_path-2.ensures c.put_path-3.ensures
