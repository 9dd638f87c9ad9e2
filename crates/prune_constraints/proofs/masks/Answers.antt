-- The loop: the masks of the values below v are put. Assumes nothing.
use Rattle.model.specs.Kit.{refl, arith, rules}
use Rattle.model.proofs.Filling.{filled_begin, filled_turn, filled_end}
use Rattle.prune_constraints.proofs.{Sixteen.masks_end}
use Rattle.prune_constraints.proofs.masks.Goals as goal

pub loop-v-init : goal.loop-v-init
loop-v-init c = (search rules, filled_begin _ _ _)

pub loop-v-preserved : goal.loop-v-preserved
loop-v-preserved c = (search rules, filled_turn _ _ _ _ _ _ _ c.loop-v.invariant.1 refl (search rules) (λ v l e. omega arith) c.mask.ensures)

pub returns : goal.returns
returns c = masks_end (search rules) (search rules) (filled_end _ _ _ _ 16 _ (search rules) (search rules) c.loop-v.invariant.1)
