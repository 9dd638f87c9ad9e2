-- Columns go into rows. Assumes nothing.
use Rattle.model.specs.Kit.{refl, arith, rules}
use Rattle.model.proofs.Filling.{filled_begin, filled_turn, filled_end}
use Rattle.arrays_tables.proofs.rows.back.Goals as goal

pub loop-w-init : goal.loop-w-init
loop-w-init c = filled_begin _ _ _

pub loop-w-preserved : goal.loop-w-preserved
loop-w-preserved c = filled_turn _ _ _ _ _ _ _ c.loop-w.invariant refl (omega arith) (λ v l e. omega arith) c.column-set.ensures

pub returns : goal.returns
returns c = filled_end _ _ _ _ _ _ (search rules) (search rules) c.loop-w.invariant
