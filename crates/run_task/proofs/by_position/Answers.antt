-- `run_task::by_position` meets its contract: after k turns the first k numbers are put. Assumes nothing.
use Rattle.model.specs.Kit.{◌∙◌, ℕ, not-suc-le-zero, arith, length-set}
use Rattle.run_task.proofs.{Task.placed_next}
use Rattle.run_task.proofs.by_position.Goals as goal

pub loop-k-init : goal.loop-k-init
loop-k-init c = (c.requires, λ j l. absurd (not-suc-le-zero l))

pub loop-k-preserved : goal.loop-k-preserved
loop-k-preserved c =
    (length-set {A = ℕ} c.loop-k.order c.loop-k.k c.loop-k.k ∙ c.loop-k.invariant.0, placed_next c.loop-k.k c.loop-k.order (omega arith) c.loop-k.invariant.1)

pub returns : goal.returns
returns c = (c.loop-k.invariant.0, λ k m. c.loop-k.invariant.1 k (omega arith))
