-- The last node of an entry. Assumes nothing.
use Rattle.model.specs.Kit.{refl, arith}
use Rattle.model.specs.Lists.{at}
use Rattle.run_entry.proofs.{Loops.taken_turn, Loops.taken_all}
use Rattle.run_entry.proofs.take.Goals as goal

pub loop-x-init : goal.loop-x-init
loop-x-init c = (omega arith, omega arith, ((λ y a b. absurd (omega arith)), (λ y a b. refl), (λ i a. refl), refl))

pub loop-x-preserved : goal.loop-x-preserved
unfolding at
loop-x-preserved c =
    (omega arith, c.loop-x.invariant.1, taken_turn c.args.work.now c.args.k c.args.s c.loop-x.x c.loop-x.work c.requires.2 (omega arith) (omega arith) (omega arith) c.loop-x.invariant.2)

pub returns : goal.returns
unfolding at
returns c =
    taken_all c.args.work.now c.args.k c.args.s c.loop-x.x c.if-vain-nodes.work c.loop-x.work c.requires.2 c.loop-x.invariant.1 (omega arith) (omega arith) c.loop-x.invariant.2
