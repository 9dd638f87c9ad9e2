-- Whether a set is compared. Assumes nothing.
use Rattle.model.specs.Kit.{arith}
use Rattle.model.specs.Lists.{at}
use Rattle.run_key.proofs.{Loops.either_yes, Loops.either_no}
use Rattle.run_key.proofs.is_compared.Goals as goal

pub returns-then-low-x : goal.returns-then-low-x
unfolding at
returns-then-low-x c = either_yes c.args.low c.args.x _ (omega arith)

pub returns-else-low-x : goal.returns-else-low-x
unfolding at
returns-else-low-x c = either_no c.args.low c.args.x _ (λ e. omega arith)
