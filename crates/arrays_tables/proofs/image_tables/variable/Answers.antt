-- The pairs of a variable, value after value. Assumes nothing.
use Rattle.model.specs.Kit.{rules}
use Rattle.arrays_tables.proofs.{Images.pairs_begin, Images.pairs_end}
use Rattle.arrays_tables.proofs.image_tables.variable.Goals as goal

pub loop-v-init : goal.loop-v-init
loop-v-init c = pairs_begin _ _ _ _

pub loop-v-preserved : goal.loop-v-preserved
loop-v-preserved c = c.pair.ensures _ c.loop-v.invariant

pub returns : goal.returns
returns c = pairs_end _ _ _ _ _ _ _ (search rules) c.loop-v.invariant
