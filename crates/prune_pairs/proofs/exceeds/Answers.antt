-- The loop: a value outside the cover, of the sets passed, is in `over`. Assumes nothing.
use Rattle.model.specs.Kit.{arith}
use Rattle.model.specs.Lists.{at}
use Rattle.prune_pairs.proofs.{Covers.compared_begin, Covers.compared_turn, Covers.compared_end, Covers.ne_false}
use Rattle.prune_pairs.proofs.exceeds.Goals as goal

pub loop-y-init : goal.loop-y-init
loop-y-init c = compared_begin _ _

pub loop-y-preserved : goal.loop-y-preserved
unfolding at
loop-y-preserved c = compared_turn c.loop-y.invariant (omega arith) (c.requires.0.1 _) (c.requires.1.1 _)

pub returns : goal.returns
returns c = λ e. compared_end c.loop-y.invariant (omega arith) c.requires.0.0 (ne_false _ e)
