-- `run_task::room_for` meets its contract: proofs/Task. Assumes nothing.
use Rattle.model.specs.Lists.{at}
use Rattle.run_task.proofs.{Task.room_listed, Task.room_wanted}
use Rattle.run_task.proofs.room_for.Goals as goal

pub returns-then-wanted-eq0 : goal.returns-then-wanted-eq0
unfolding at
returns-then-wanted-eq0 c = room_listed _ _ _ c.if-wanted-eq0.true

pub returns : goal.returns
unfolding at
returns c = room_wanted _ _ _ c.if-wanted-eq0.false
