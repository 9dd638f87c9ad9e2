use Rattle.model.specs.Kit.{◌∙◌}
use Rattle.model.specs.Lists.{at}
use Rattle.sheet_table.proofs.Frames.{few_places}
use Rattle.sheet_carried.proofs.forbidden.scope_at.Goals as goal

pub returns : goal.returns
unfolding at
returns c = λ p f h i. c.scope_at.ensures ∙ f.numbered.scope _ _ h i

pub scope_at-requires : goal.scope_at-requires
scope_at-requires c = few_places c.requires.0 _ c.requires.1 _ _ c.requires.2 c.requires.3
