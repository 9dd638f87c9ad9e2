-- Which plans an entry has. Assumes nothing.
use Rattle.model.specs.Kit.{arith}
use Rattle.model.specs.Lists.{at}
use Rattle.run_entry.proofs.{Copies.plans_put}
use Rattle.run_entry.proofs.put_plans.Goals as goal

pub overflow_sub-work : goal.overflow_sub-work
unfolding at
overflow_sub-work c = omega arith

pub returns : goal.returns
unfolding at
returns c = plans_put c.args.work.now c.args.plans c.args.s (omega (arith, c.requires.0, c.requires.1.is))
