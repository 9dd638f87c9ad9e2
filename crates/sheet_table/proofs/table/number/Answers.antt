use Rattle.model.specs.Kit.{refl}
use Rattle.model.specs.Lists.{at}
use Rattle.sheet_table.proofs.table.number.Goals as goal

pub returns : goal.returns
unfolding at
returns c = refl
