-- `value_at`: an index inside, or behind. Assumes nothing.
use Rattle.model.specs.Kit.{arith}
use Rattle.export_parts.proofs.{Pieces.value_in, Pieces.value_behind}
use Rattle.export_parts.proofs.heads.value_at.Goals as goal

pub returns-then-i-min : goal.returns-then-i-min
returns-then-i-min c =
    value_in c.args.path.now c.args.n c.args.i c.min.result (omega arith) c.if-i-min.true

pub returns-else-i-min : goal.returns-else-i-min
returns-else-i-min c =
    value_behind c.args.path.now c.args.n c.args.i c.min.result (omega arith) c.if-i-min.false
