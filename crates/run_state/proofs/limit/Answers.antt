-- `run_state::limit` meets its contract. Assumes nothing.
use Rattle.model.specs.Kit.{rules}
use Rattle.model.specs.Lists.{at}
use Rattle.run_state.proofs.limit.Goals as goal

pub overflow_cast-result : goal.overflow_cast-result
unfolding at
overflow_cast-result c = record { fits = c.requires }

pub returns : goal.returns
unfolding at
returns c = search rules
