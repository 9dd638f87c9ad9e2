-- Support sets go into rows. Assumes nothing.
use Rattle.model.specs.Kit.{refl, arith, rules}
use Rattle.model.specs.{Lists.at}
use Rattle.model.proofs.Filling.{filled_begin, filled_turn, filled_end}
use Rattle.arrays_tables.proofs.rows.across.Goals as goal

pub loop-v-init : goal.loop-v-init
loop-v-init c = filled_begin _ _ _

pub loop-v-preserved : goal.loop-v-preserved
unfolding at
loop-v-preserved c = filled_turn _ _ _ _ _ _ _ c.loop-v.invariant refl (omega arith) (λ v l e. omega arith) refl

pub returns : goal.returns
returns c = filled_end _ _ _ _ _ _ (search rules) (search rules) c.loop-v.invariant
