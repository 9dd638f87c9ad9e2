-- Sixteen marks are cleared, one after another. Assumes nothing.
use Rattle.model.specs.Kit.{arith, rules}
use Rattle.prune.proofs.{Copies.filled_begin, Copies.filled_turn, Copies.stored}
use Rattle.prune.proofs.clear_marks.Goals as goal

pub loop-e-init : goal.loop-e-init
loop-e-init c = (search rules, filled_begin _ _ _)

pub loop-e-preserved : goal.loop-e-preserved
loop-e-preserved c = (search rules, filled_turn _ _ _ _ _ _ c.loop-e.invariant.1 (omega arith) (omega arith))

pub returns : goal.returns
returns c = stored _ _ _ _ _ (search rules) c.loop-e.invariant.1
