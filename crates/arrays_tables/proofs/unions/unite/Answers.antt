-- The unions of a constraint, one after another. Assumes nothing.
use Rattle.model.specs.Kit.{refl, arith, rules}
use Rattle.model.proofs.Filling.{filled_begin, filled_turn, filled_end}
use Rattle.arrays_tables.proofs.unions.unite.Goals as goal

pub loop-c-init : goal.loop-c-init
loop-c-init c = filled_begin _ _ _

pub loop-c-preserved : goal.loop-c-preserved
loop-c-preserved c = filled_turn _ _ _ _ _ _ _ c.loop-c.invariant refl (omega arith) (λ v l e. omega arith)
    (record { words = _; made = c.words.ensures.here; union = c.union.ensures })

pub returns : goal.returns
returns c = filled_end _ _ _ _ _ _ (search rules) (search rules) c.loop-c.invariant
