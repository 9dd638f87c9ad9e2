-- The other constraints of each variable. Assumes nothing.
use Rattle.model.specs.Kit.{refl, ap, ℕ, ◌-◌, ◌^◌, arith, bit_and, rules}
use Rattle.model.specs.{Lists.at}
use Rattle.model.proofs.Filling.{filled_begin, filled_turn, filled_end}
use Rattle.arrays_tables.proofs.linked.others.Goals as goal

pub loop-x-init : goal.loop-x-init
loop-x-init c = filled_begin _ _ _

pub loop-x-preserved : goal.loop-x-preserved
unfolding at
loop-x-preserved c = filled_turn _ _ _ _ _ _ _ c.loop-x.invariant refl (omega arith) (λ v l e. omega arith)
    (ap (λ (n : ℕ). bit_and n ((2 ^ 64 - 1) - c.args.set)) (c.loop-x.invariant.other _ (λ v l e. omega arith)))

pub returns : goal.returns
returns c = filled_end _ _ _ _ _ _ (search rules) (search rules) c.loop-x.invariant
