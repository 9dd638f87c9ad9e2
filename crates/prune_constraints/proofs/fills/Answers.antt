-- Whether the lanes that are not empty are those of a set. Assumes nothing.
use Rattle.model.specs.Kit.{rules, eqb-true}
use Rattle.model.specs.Lists.{at}
use Rattle.prune_constraints.proofs.{Lanes.lanes_of}
use Rattle.prune_constraints.proofs.fills.Goals as goal

pub returns : goal.returns
unfolding at
returns c = λ q. lanes_of _ (search rules) (λ j w. c.requires.spreads _ j w (search rules)) c.heads.ensures (eqb-true _ _ q)
