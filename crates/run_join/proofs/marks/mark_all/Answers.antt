-- `mark_all`: after k turns the first k heads are marked. Assumes nothing.
use Rattle.model.specs.Kit.{arith}
use Rattle.run_join.proofs.{Bits.all_turn}
use Rattle.run_join.proofs.marks.mark_all.Goals as goal

pub loop-k-init : goal.loop-k-init
loop-k-init c = (c.requires.0, λ j h. absurd (omega arith))

pub loop-k-preserved : goal.loop-k-preserved
loop-k-preserved c = (c.mark.ensures.long, all_turn c.loop-k.marks c.loop-k.k _ c.loop-k.invariant.1 c.mark.ensures)

pub returns : goal.returns
returns c = λ j h. c.loop-k.invariant.1 j (omega arith)

pub mark-requires : goal.mark-requires
mark-requires c = (c.loop-k.invariant.0, omega arith)
