-- The constraints that are looked up at a depth, one after another. Assumes nothing.
use Rattle.model.specs.Kit.{refl, arith}
use Rattle.model.specs.{Lists.at}
use Rattle.model.proofs.{Members.has_0, Filling.gathered_begin, Filling.gathered_turn, Filling.gathered_end}
use Rattle.arrays_tables.proofs.{LookScopes.look_is, LookScopes.look_scopes}
use Rattle.arrays_tables.proofs.looks.at_depth.Goals as goal

pub returns-then-numbers-lt9 : goal.returns-then-numbers-lt9
returns-then-numbers-lt9 c = λ i t. absurd (has_0 i t)

pub loop-i-init : goal.loop-i-init
unfolding at
loop-i-init c = (refl, refl, gathered_begin _)

pub loop-i-preserved : goal.loop-i-preserved
unfolding at
loop-i-preserved c = (c.loop-i.invariant.0, c.loop-i.invariant.1, gathered_turn _ _ _ _ c.loop-i.invariant.2 (look_is _ _ _ _ _ _ c.arity.ensures c.scope_at.ensures c.one_if-all.ensures))

pub returns : goal.returns
returns c = look_scopes _ _ _ (gathered_end _ _ _ _ (omega (arith, c.loop-i.invariant.0)) (omega (arith, c.loop-i.invariant.0)) c.loop-i.invariant.2)
