-- `put_path`: the length, then the values. Assumes nothing.
use Rattle.model.specs.Kit.{refl, ◌∙◌, arith, set, take, length-set}
use Rattle.export_parts.proofs.{Pieces.kept_is, Pieces.path_put}
use Rattle.export_parts.proofs.heads.put_path.Goals as goal

pub shape_of-out : goal.shape_of-out
shape_of-out c =
    c.put_values.auto.out ∙ length-set c.args.out.now c.args.start c.min-kept.result

pub returns : goal.returns
returns c =
    path_put c.args.out.now (set c.args.out.now c.args.start c.min-kept.result) c.put_values.new.out c.args.start (take c.args.n c.args.path.now) c.min-kept.result _
    c.requires
    (kept_is c.args.path.now c.args.n c.min-kept.result c.min.result (omega arith) (omega arith)) refl c.put_values.ensures (omega arith)

pub put_values-requires : goal.put_values-requires
put_values-requires c = simp length-set (omega arith)
