-- `byte`: the byte, or the bound. Assumes nothing.
use Rattle.model.specs.Kit.{rules}
use Rattle.model.specs.Lists.{at}
use Rattle.desk.proofs.byte.Goals as goal

pub returns : goal.returns
unfolding at
returns c = search rules
