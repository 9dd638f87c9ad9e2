-- `to_serve`: after i turns of the loop the first i slots of the round don't wait. Assumes nothing.
use Rattle.model.specs.Kit.{sym, ◌∙◌, arith}
use Rattle.model.specs.Lists.{at}
use Rattle.desk_waits.proofs.{Finding.quiet_more, Finding.serve_is, Finding.serve_none}
use Rattle.desk.specs.Inner.Places.{NEXT}
use Rattle.desk_waits.proofs.to_serve.Goals as goal

pub loop-i-init : goal.loop-i-init
loop-i-init c = λ j h. absurd (omega arith)

pub returns-then-waits : goal.returns-then-waits
unfolding at
returns-then-waits c = record {
  slot = serve_is c.args.queue.now c.loop-i.i (omega arith) c.loop-i.invariant (sym c.waits.ensures ∙ c.if-waits.true);
  inside = omega arith;
}

pub loop-i-preserved : goal.loop-i-preserved
unfolding at
loop-i-preserved c = quiet_more c.args.queue.now c.loop-i.i c.loop-i.invariant (sym c.waits.ensures ∙ c.if-waits.false)

pub returns : goal.returns
returns c = record { slot = serve_none c.args.queue.now c.loop-i.i (omega arith) c.loop-i.invariant; inside = tt }

pub overflow_cast-next : goal.overflow_cast-next
overflow_cast-next c = omega (arith, c.shared_slice_known-2-1.given NEXT)

pub overflow_add-k : goal.overflow_add-k
overflow_add-k c = omega (arith, c.shared_slice_known-2-1.given NEXT)
