-- `run_state::variable_at` meets its contract. Assumes nothing.
use Rattle.model.specs.Kit.{rules}
use Rattle.model.specs.Lists.{at}
use Rattle.run_state.proofs.variable_at.Goals as goal

pub returns : goal.returns
unfolding at
returns c = search rules
