-- What one value refuses. Assumes nothing.
use Rattle.model.specs.Kit.{sym, ◌∙◌}
use Rattle.model.specs.Lists.{at}
use Rattle.arrays_tables.proofs.{LooseVariables.refused_none, LooseVariables.refused_not}
use Rattle.arrays_tables.proofs.loose.refused.Goals as goal

pub returns-then-not-contains : goal.returns-then-not-contains
returns-then-not-contains c = refused_none _ _ _ _ (sym c.contains.ensures ∙ c.if-not-contains.true)

pub returns : goal.returns
unfolding at
returns c = refused_not _ _ _ _ _ c.outside.ensures
