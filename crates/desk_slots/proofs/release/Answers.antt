-- `release`: the queue's size, the slot's number, whether it is taken, the room. Assumes nothing.
use Rattle.model.specs.Kit.{refl, ◌+◌, ◌-◌, ◌*◌, arith}
use Rattle.model.specs.Lists.{at}
use Rattle.desk.specs.Inner.Places.{LIST, SLOT}
use Rattle.desk.proofs.{Slots.release_255, Slots.release_out, Slots.release_free, Slots.release_22, Slots.release_yes, Held.release_done}
use Rattle.desk_slots.proofs.release.Goals as goal

pub returns-then-queue-ne-QUEUE_BYTES : goal.returns-then-queue-ne-QUEUE_BYTES
returns-then-queue-ne-QUEUE_BYTES c = release_done (release_255 c.args.queue.now c.args.slot c.args.room.now c.if-queue-ne-QUEUE_BYTES.true)

pub returns-then-slot-ge8 : goal.returns-then-slot-ge8
returns-then-slot-ge8 c = release_done (release_out c.args.queue.now c.args.slot c.args.room.now (omega (arith, c.if-queue-ne-QUEUE_BYTES.false)) c.if-slot-ge8.true)

pub returns-then-queue-p-eq0 : goal.returns-then-queue-p-eq0
unfolding at
returns-then-queue-p-eq0 c =
    release_done (release_free c.args.queue.now c.args.slot c.args.room.now (omega (arith, c.if-queue-ne-QUEUE_BYTES.false)) c.if-slot-ge8.false c.if-queue-p-eq0.true)

pub returns-then-room-n : goal.returns-then-room-n
unfolding at
returns-then-room-n c =
    release_done (release_22 c.args.queue.now c.args.slot c.args.room.now (omega (arith, c.if-queue-ne-QUEUE_BYTES.false))
    c.if-slot-ge8.false _ c.list_length-n.ensures.0 c.list_length-n.ensures.1 c.if-queue-p-eq0.false c.if-room-n.true)

pub returns : goal.returns
unfolding at
returns c =
    let from = SLOT * c.args.slot + LIST in
    release_done (release_yes c.args.queue.now c.args.slot c.args.room.now (omega (arith, c.if-queue-ne-QUEUE_BYTES.false)) c.if-slot-ge8.false _ c.list_length-n.ensures.0 c.list_length-n.ensures.1
    (from + c.list_length-n.result - from) _ _ (omega arith)
    c.if-queue-p-eq0.false c.if-room-n.false
    c.place.ensures refl)
