-- `waits`: the slot's flag, and the byte that says how its run stands. Assumes nothing.
use Rattle.model.specs.Kit.{ap, not, ◌∙◌, eq-eqb}
use Rattle.model.specs.Lists.{at}
use Rattle.desk_waits.proofs.{Finding.free_quiet, Finding.taken_waits}
use Rattle.desk_waits.proofs.waits.Goals as goal

pub returns-else-queue-p-ne0 : goal.returns-else-queue-p-ne0
unfolding at
returns-else-queue-p-ne0 c = ap not (eq-eqb _ 0 c.if-queue-p-ne0.false) ∙ free_quiet c.args.queue.now c.args.k c.if-queue-p-ne0.false

pub returns-then-queue-p-ne0 : goal.returns-then-queue-p-ne0
unfolding at
returns-then-queue-p-ne0 c = taken_waits c.args.queue.now c.args.k c.if-queue-p-ne0.true
