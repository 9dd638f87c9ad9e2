-- `run_part::stands` meets its contract. Assumes nothing.
use Rattle.model.specs.Kit.{refl}
use Rattle.model.specs.Lists.{at}
use Rattle.run_part.proofs.stands.Goals as goal

pub returns : goal.returns
unfolding at
returns c = (refl, refl, refl, c.last_values.ensures)
