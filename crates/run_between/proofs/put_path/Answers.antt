-- `run_between::put_path` meets its contract: proofs/Ends. Assumes nothing.
use Rattle.model.specs.Kit.{arith}
use Rattle.model.specs.Lists.{at}
use Rattle.run_between.proofs.{Ends.putting_start, Ends.putting_next, Ends.putting_done}
use Rattle.run_between.proofs.put_path.Goals as goal

pub loop-i-init : goal.loop-i-init
loop-i-init c = putting_start _ _

pub loop-i-preserved : goal.loop-i-preserved
unfolding at
loop-i-preserved c = putting_next _ _ _ _ _ c.loop-i.invariant c.requires (omega (arith, c.min-end.ensures)) c.long.ensures.0 c.long.ensures.1

pub returns : goal.returns
unfolding at
returns c = putting_done _ _ _ _ _ c.loop-i.invariant c.requires c.min-end.ensures (omega arith) (omega arith)
