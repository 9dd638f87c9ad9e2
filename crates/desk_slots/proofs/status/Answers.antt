-- `status`: the queue's size, the slot's number, whether it is taken. Assumes nothing.
use Rattle.model.specs.Kit.{arith}
use Rattle.model.specs.Lists.{at}
use Rattle.desk.proofs.{Slots.status_255, Slots.status_out, Slots.status_free, Slots.status_yes, Held.status_done}
use Rattle.desk_slots.proofs.status.Goals as goal

pub returns-then-queue-ne-QUEUE_BYTES : goal.returns-then-queue-ne-QUEUE_BYTES
returns-then-queue-ne-QUEUE_BYTES c = status_done (status_255 c.args.queue.now c.args.slot c.if-queue-ne-QUEUE_BYTES.true)

pub returns-then-slot-ge8 : goal.returns-then-slot-ge8
returns-then-slot-ge8 c = status_done
    (status_out c.args.queue.now c.args.slot (omega (arith, c.if-queue-ne-QUEUE_BYTES.false)) c.if-slot-ge8.true)

pub returns-then-queue-p-eq0 : goal.returns-then-queue-p-eq0
unfolding at
returns-then-queue-p-eq0 c =
    status_done (status_free c.args.queue.now c.args.slot (omega (arith, c.if-queue-ne-QUEUE_BYTES.false)) c.if-slot-ge8.false c.if-queue-p-eq0.true)

pub returns : goal.returns
unfolding at
returns c =
    status_done (status_yes c.args.queue.now c.args.slot (omega (arith, c.if-queue-ne-QUEUE_BYTES.false))
    c.if-slot-ge8.false _ _ _ _ c.if-queue-p-eq0.false c.byte.ensures
    c.bounded.ensures c.nodes_at.ensures c.counts_at.ensures)
