-- The marks of a depth are stored for the next, one after another; without symmetries there are none. Assumes nothing.
use Rattle.model.specs.Kit.{arith, rules}
use Rattle.model.specs.Lists.{at}
use Rattle.prune.proofs.{Copies.filled_begin, Copies.filled_with, Copies.stored, Copies.copied, Copies.copied_none}
use Rattle.prune.proofs.copy_marks.Goals as goal

pub returns-then-numbers-eq0 : goal.returns-then-numbers-eq0
unfolding at
returns-then-numbers-eq0 c = copied_none _ _ _ c.if-numbers-eq0.true

pub loop-e-init : goal.loop-e-init
loop-e-init c = (search rules, filled_begin _ _ _)

pub loop-e-preserved : goal.loop-e-preserved
unfolding at
loop-e-preserved c =
    (search rules, filled_with _ _ _ _ _ _ _ c.loop-e.invariant.1 (omega arith) (omega arith) (c.loop-e.invariant.1.other _ (λ x l e. omega arith)))

pub returns : goal.returns
returns c = copied _ _ _ _ (stored _ _ _ _ _ (search rules) c.loop-e.invariant.1)
