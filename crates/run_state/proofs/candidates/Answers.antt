-- `run_state::candidates` meets its contract. Assumes nothing.
use Rattle.model.specs.Kit.{rules}
use Rattle.model.specs.Lists.{at}
use Rattle.run_state.proofs.candidates.Goals as goal

pub returns : goal.returns
unfolding at
returns c = search rules
