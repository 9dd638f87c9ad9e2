use Rattle.model.specs.Kit.{◌∙◌}
use Rattle.model.specs.Lists.{at}
use Rattle.sheet_carried.proofs.forbidden.arity.Goals as goal

pub returns : goal.returns
unfolding at
returns c = λ p f h. c.arity.ensures ∙ f.numbered.arity _ h
