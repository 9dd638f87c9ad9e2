-- What is together in each lane, under all lanes of one set and another in each. Assumes nothing.
use Rattle.model.specs.Lists.{at}
use Rattle.prune_constraints.proofs.{Lanes.lanes_in}
use Rattle.prune_constraints.proofs.in_lanes.Goals as goal

pub returns : goal.returns
unfolding at
returns c = λ lane f. lanes_in _ _ _ _ _ lane c.requires.bits_bound.1 c.requires.bits_bound.2 (λ j w. c.requires.spreads _ j w c.requires.bits_bound.1)
    (c.together.ensures lane f)
