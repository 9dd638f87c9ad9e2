use Rattle.model.specs.Lists.{at}
use Rattle.sheet_table.proofs.moves.place.Goals as goal

pub returns : goal.returns
unfolding at
returns c = c.wide.ensures
