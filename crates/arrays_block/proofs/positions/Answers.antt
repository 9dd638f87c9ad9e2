use Rattle.model.specs.Kit.{arith}
use Rattle.arrays_block.proofs.{Gathering.positions_other, Gathering.positions_two}
use Rattle.arrays_block.proofs.positions.Goals as goal

pub returns-then-block-ne2 : goal.returns-then-block-ne2
returns-then-block-ne2 c = positions_other _ _ _ c.if-block-ne2.true

pub returns : goal.returns
returns c = positions_two _ _ _ _ c.if-block-ne2.false c.gather.ensures
