-- The memo is emptied. Assumes nothing.
use Rattle.model.specs.Kit.{refl, arith}
use Rattle.run_memo.proofs.{Loops.cleared_turn}
use Rattle.run_memo.proofs.clear.Goals as goal

pub loop-i-init : goal.loop-i-init
loop-i-init c = (omega arith, ((λ j l. absurd (omega arith)), (λ j l. refl), refl))

pub loop-i-preserved : goal.loop-i-preserved
loop-i-preserved c = (omega arith, cleared_turn _ _ _ (omega arith) c.loop-i.invariant.1)

pub returns : goal.returns
returns c = record { empty = λ i l. c.loop-i.invariant.1.0 i (omega arith); before = c.loop-i.invariant.1.1; long = c.loop-i.invariant.1.2 }
