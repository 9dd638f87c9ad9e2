-- The constraints that are looked up, depth by depth. Assumes nothing.
use Rattle.model.specs.Kit.{refl, arith, rules}
use Rattle.model.proofs.Filling.{filled_begin, filled_turn, filled_end}
use Rattle.arrays.specs.Inner.Places.{CONSTRAINTS}
use Rattle.arrays_tables.proofs.{LookScopes.look_scopes_from}
use Rattle.arrays_tables.proofs.looks.looks.Goals as goal

pub loop-k-init : goal.loop-k-init
loop-k-init c = filled_begin _ _ _

pub loop-k-preserved : goal.loop-k-preserved
loop-k-preserved c = filled_turn _ _ _ _ _ _ _ c.loop-k.invariant refl (omega arith) (λ v l e. omega arith)
    (look_scopes_from _ _ _ _ (λ j l. c.loop-k.invariant.other j (λ v m e. omega arith)) (search rules) c.at_depth.ensures)

pub returns : goal.returns
returns c = filled_end _ _ _ _ _ _ (search rules) (search rules) c.loop-k.invariant

pub at_depth-requires : goal.at_depth-requires
at_depth-requires c = (omega (arith, c.loop-k.invariant.other CONSTRAINTS (λ v l e. omega arith)), search rules)
