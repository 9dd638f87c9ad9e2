-- `four_at`: four bytes. Assumes nothing.
use Rattle.model.specs.Kit.{arith}
use Rattle.model.specs.Lists.{at}
use Rattle.run_join.proofs.paths.four_at.Goals as goal

pub returns : goal.returns
unfolding at
returns c =
    (omega (arith, c.long-d.ensures.0, c.long-c.ensures.0, c.long-b.ensures.0, c.long-a.ensures.0), omega (arith, c.long-d.ensures.1, c.long-c.ensures.1, c.long-b.ensures.1, c.long-a.ensures.1))
