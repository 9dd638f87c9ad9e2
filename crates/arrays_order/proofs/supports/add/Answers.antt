-- One column after another. Assumes nothing.
use Rattle.model.specs.Kit.{refl, ap, ℕ, arith, bit_or, rules}
use Rattle.model.specs.{Lists.at}
use Rattle.model.proofs.Filling.{filled_begin, filled_turn, filled_end}
use Rattle.arrays_order.proofs.supports.add.Goals as goal

pub loop-w-init : goal.loop-w-init
loop-w-init c = filled_begin _ _ _

pub loop-w-preserved : goal.loop-w-preserved
unfolding at
loop-w-preserved c = filled_turn _ _ _ _ _ _ _ c.loop-w.invariant refl (omega arith) (λ v l e. omega arith)
    (_, c.cell.ensures, ap (λ (z : ℕ). bit_or z c.cell.result) (c.loop-w.invariant.other _ (λ v l e. omega arith)))

pub returns : goal.returns
returns c = filled_end _ _ _ _ _ _ (search rules) (search rules) c.loop-w.invariant
