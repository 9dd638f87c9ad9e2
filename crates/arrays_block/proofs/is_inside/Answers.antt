use Rattle.model.specs.Kit.{le-leb, lt-leb}
use Rattle.block.specs.Block.{in_block}
use Rattle.arrays_block.proofs.is_inside.Goals as goal

pub returns-then-first-x : goal.returns-then-first-x
unfolding in_block
returns-then-first-x c = simp (le-leb _ _ c.if-first-x.true)

pub returns-else-first-x : goal.returns-else-first-x
unfolding in_block
returns-else-first-x c = simp (lt-leb _ _ c.if-first-x.false)
