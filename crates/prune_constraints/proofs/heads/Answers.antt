-- The first bit of every lane that is not empty. Assumes nothing.
use Rattle.prune_constraints.proofs.{Lanes.full_heads}
use Rattle.prune_constraints.proofs.heads.Goals as goal

pub returns : goal.returns
returns c = full_heads _
