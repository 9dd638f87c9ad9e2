-- `waiting`: after k turns of the loop the set has those of the first k slots that wait. Assumes nothing.
use Rattle.model.specs.Kit.{Bool, ap, ◌∙◌, ℕ, arith, or_lt}
use Rattle.model.specs.{ValueSets.one_if}
use Rattle.model.proofs.Filling.{gathered_begin, gathered_turn}
use Rattle.desk.specs.{Queue.waits, Inner.Layout.slot_of}
use Rattle.desk_waits.proofs.{Finding.one_lt, Finding.waiting_is}
use Rattle.desk_waits.proofs.waiting.Goals as goal

pub loop-k-init : goal.loop-k-init
loop-k-init c = (omega arith, gathered_begin _)

pub loop-k-preserved : goal.loop-k-preserved
loop-k-preserved c =
    let e = c.slot_if-set.ensures ∙ ap (λ (b : Bool). one_if b c.loop-k.k) c.waits.ensures in (
      or_lt 16 c.loop-k.set c.slot_if-set.result c.loop-k.invariant.0 (one_lt c.waits.result c.loop-k.k c.slot_if-set.result (omega arith) c.slot_if-set.ensures),
      gathered_turn (λ (j : ℕ). waits (slot_of c.args.queue.now j)) c.loop-k.k c.loop-k.set c.slot_if-set.result c.loop-k.invariant.1 e,
    )

pub returns : goal.returns
returns c = waiting_is c.args.queue.now c.loop-k.set c.loop-k.k (omega arith) (omega arith) c.loop-k.invariant.0 c.loop-k.invariant.1
