-- `put_values`: after i turns the first i values are written. Assumes nothing.
use Rattle.model.specs.Kit.{refl, ◌∙◌, ◌+◌, arith, take, length-set}
use Rattle.model.specs.{Lists.at}
use Rattle.export_parts.proofs.{Pieces.values_all}
use Rattle.model.proofs.Written.{written_start, written_turn}
use Rattle.export_parts.proofs.heads.put_values.Goals as goal

pub loop-i-init : goal.loop-i-init
loop-i-init c = (refl, written_start c.args.out.now c.args.start (at (take c.args.n c.args.path.now)))

pub loop-i-preserved : goal.loop-i-preserved
loop-i-preserved c = (
  length-set c.loop-i.out (c.args.start + c.loop-i.i) c.value_at.result ∙ c.loop-i.invariant.0,
  written_turn c.args.out.now c.loop-i.out c.args.start c.loop-i.i c.value_at.result (at (take c.args.n c.args.path.now)) (omega arith) c.loop-i.invariant.0 c.value_at.ensures
      c.loop-i.invariant.1,
)

pub returns : goal.returns
returns c =
    values_all c.args.out.now c.loop-i.out c.args.start c.loop-i.i (at (take c.args.n c.args.path.now)) (omega arith) c.loop-i.invariant.1

pub overflow_add-out : goal.overflow_add-out
overflow_add-out c = omega arith

pub bounds-out-start : goal.bounds-out-start
bounds-out-start c = omega arith

pub shape_of-out : goal.shape_of-out
shape_of-out c = c.loop-i.invariant.0
