use Rattle.model.specs.Kit.{arith}
use Rattle.model.specs.ValueSets.{mask_below}
use Rattle.model.proofs.Filling.{filled_begin}
use Rattle.sheet.proofs.{SetsTurn.set_stored, SetsTurn.zero_sets}
use Rattle.sheet.proofs.sets.fill.Goals as goal

pub loop-x-init : goal.loop-x-init
unfolding mask_below
loop-x-init c = (omega arith, c.full-first.ensures, c.told-numbers, filled_begin _ _ _)

pub loop-x-preserved : goal.loop-x-preserved
loop-x-preserved c = (omega arith, c.loop-x.invariant.1, c.loop-x.invariant.2, set_stored _ _ _ _ _ (omega arith) c.loop-x.invariant.2 c.loop-x.invariant.1 c.loop-x.invariant.3)

pub returns : goal.returns
returns c = zero_sets _ _ _ (omega arith) c.loop-x.invariant.0 c.loop-x.invariant.3
