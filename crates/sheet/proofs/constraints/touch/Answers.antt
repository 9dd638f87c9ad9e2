use Rattle.model.specs.Kit.{arith}
use Rattle.sheet.proofs.{ScopeTurn.touch_is}
use Rattle.sheet.proofs.constraints.touch.Goals as goal

pub returns : goal.returns
returns c = touch_is _ _ _ (omega (arith, c.requires.0))
