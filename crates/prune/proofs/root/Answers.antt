-- The initial sets are on the way to those of the empty prefix. Assumes nothing.
use Rattle.model.specs.Lists.{at}
use Rattle.prune.proofs.{Starts.root_unpruned}
use Rattle.prune.proofs.root.Goals as goal

pub prune_all-requires : goal.prune_all-requires
unfolding at
prune_all-requires c = (c.requires.0, c.requires.1, c.requires.2, root_unpruned c.requires.2 _ c.initial.ensures.0 c.initial.ensures.1)

pub returns : goal.returns
unfolding at
returns c = λ p gs r. c.prune_all.ensures p gs r (root_unpruned r _ c.initial.ensures.0 c.initial.ensures.1)
