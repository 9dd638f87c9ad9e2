-- `rounds`: the queue's size, the slots that wait, their turns, and those that still wait. Assumes nothing.
use Rattle.model.specs.Kit.{refl, arith, length-set}
use Rattle.model.specs.Lists.{at}
use Rattle.desk_turns.proofs.{Rounding.rounds_255, Rounding.rounded}
use Rattle.desk_turns.proofs.Held as held
use Rattle.desk_turns.proofs.rounds.Goals as goal

pub returns-then-queue-ne-QUEUE_BYTES : goal.returns-then-queue-ne-QUEUE_BYTES
returns-then-queue-ne-QUEUE_BYTES c = held.rounded (rounds_255 _ _ c.if-queue-ne-QUEUE_BYTES.true)

pub returns : goal.returns
unfolding at
returns c = held.rounded (rounded _ _ (
  c.if-queue-ne-QUEUE_BYTES.false,
  λ i. (c.slice_known-1.given i).fits,
) _ _ _ _ _ c.waiting-before.ensures
    c.go_round-next.ensures.0 c.go_round-next.ensures.1 refl c.waiting-going.ensures)

pub waiting-going-requires : goal.waiting-going-requires
waiting-going-requires c = simp length-set (omega arith)
