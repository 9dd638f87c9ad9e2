-- The loop: the sets from y on are cut, those before are as they came, and `changed` has those that are smaller. Assumes nothing.
use Rattle.model.specs.Kit.{arith}
use Rattle.model.specs.Lists.{at}
use Rattle.prune_pairs.proofs.{Cuts.cutting_begin, Cuts.cutting_end, Cuts.cutting_dead, Cuts.cutting_less, Cuts.cutting_same}
use Rattle.prune_pairs.proofs.cut.Goals as goal

pub loop-y-init : goal.loop-y-init
loop-y-init c = cutting_begin _ _ c.requires

pub returns-then-new-eq0 : goal.returns-then-new-eq0
unfolding at
returns-then-new-eq0 c = cutting_dead c.loop-y.invariant c.loop-y-test.true c.if-new-old.true c.if-new-eq0.true

pub loop-y-preserved-then-new-old : goal.loop-y-preserved-then-new-old
unfolding at
loop-y-preserved-then-new-old c = cutting_less c.loop-y.invariant c.loop-y-test.true c.if-new-old.true c.if-new-eq0.false

pub loop-y-preserved : goal.loop-y-preserved
unfolding at
loop-y-preserved c = cutting_same c.loop-y.invariant c.loop-y-test.true c.if-new-old.false

pub returns : goal.returns
returns c = cutting_end c.loop-y.invariant (λ i h l. absurd (omega arith))
