-- `turn`: the queue's size, the slot to serve, its turn. Assumes nothing.
use Rattle.model.specs.Kit.{arith}
use Rattle.model.specs.Lists.{at}
use Rattle.desk_turns.proofs.{Serving.turn_255, Serving.turn_idle, Serving.waiting, Serving.turn_served, Held.turned}
use Rattle.desk_turns.proofs.turn.Goals as goal

pub returns-then-queue-ne-QUEUE_BYTES : goal.returns-then-queue-ne-QUEUE_BYTES
unfolding at
returns-then-queue-ne-QUEUE_BYTES c = turned (turn_255 c.args.queue.now c.if-queue-ne-QUEUE_BYTES.true)

pub returns-in_default : goal.returns-in_default
unfolding at
returns-in_default c = turned (turn_idle c.args.queue.now c.if-queue-ne-QUEUE_BYTES.false c.in_default.ensures.slot)

pub serve-s-requires : goal.serve-s-requires
unfolding at
serve-s-requires c = (
  c.if-queue-ne-QUEUE_BYTES.false,
  c.in-Some.ensures.inside,
  waiting c.args.queue.now
      c.if-queue-ne-QUEUE_BYTES.false (λ i. (c.slice_known-1.given i).fits) _ c.in-Some.ensures.slot c.in-Some.ensures.inside,
  omega arith,
)

pub returns : goal.returns
unfolding at
returns c = turned (turn_served c.args.queue.now
    c.if-queue-ne-QUEUE_BYTES.false (λ i. (c.slice_known-1.given i).fits) _
    c.in-Some.ensures.slot c.in-Some.ensures.inside _ _ c.serve-s.ensures)
