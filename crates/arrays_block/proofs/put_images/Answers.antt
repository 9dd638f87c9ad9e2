-- By the number of bytes. Assumes nothing.
use Rattle.model.specs.Kit.{arith}
use Rattle.arrays_block.proofs.{Putting.put_none, Putting.two_is, Putting.put_two}
use Rattle.arrays_block.proofs.put_images.Goals as goal

pub returns-then-block-ne2 : goal.returns-then-block-ne2
returns-then-block-ne2 c = λ p i h. put_none p _ _ _ i c.if-block-ne2.true

pub returns : goal.returns
returns c = λ p i h. put_two p _ _ _ _ c.if-block-ne2.false (c.put_rows.ensures p i (two_is p _ _ _ i c.if-block-ne2.false h))

pub put_rows-requires : goal.put_rows-requires
put_rows-requires c = (c.requires.0, c.requires.1, two_is c.requires.0 _ _ _ c.requires.1 c.if-block-ne2.false c.requires.2)
