-- What two values refuse. Assumes nothing.
use Rattle.model.specs.Kit.{rules}
use Rattle.arrays_tables.proofs.{LooseVariables.refused_begin, LooseVariables.refused_turn, LooseVariables.refused_end}
use Rattle.arrays_tables.proofs.loose.twice.Goals as goal

pub loop-v-init : goal.loop-v-init
loop-v-init c = refused_begin _ _ _

pub loop-v-preserved : goal.loop-v-preserved
loop-v-preserved c = refused_turn _ _ _ _ _ _ _ c.loop-v.invariant c.refused-r.ensures _ _ _
    c.common.ensures c.union-once.ensures c.union-all.ensures

pub returns : goal.returns
returns c = refused_end _ _ _ _ _ _ (search rules) c.loop-v.invariant
