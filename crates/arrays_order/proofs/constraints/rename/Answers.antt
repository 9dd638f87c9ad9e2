-- One constraint after another. Assumes nothing.
use Rattle.model.specs.Kit.{arith, rules}
use Rattle.model.specs.Lists.{at}
use Rattle.arrays_order.proofs.{Scopes.renamed_begin, Scopes.renamed_turn, Scopes.scope_still, Scopes.renamed_end}
use Rattle.arrays_order.proofs.constraints.rename.Goals as goal

pub loop-k-init : goal.loop-k-init
loop-k-init c = renamed_begin _ _ _

pub scope-requires : goal.scope-requires
unfolding at
scope-requires c = scope_still _ _ _ _ _ _ _ c.loop-k.invariant (c.requires.2 _ (search rules))

pub loop-k-preserved : goal.loop-k-preserved
unfolding at
loop-k-preserved c = renamed_turn _ _ _ _ _ _ _ _ (omega arith) c.told-numbers c.loop-k.invariant
    c.scope.ensures.0 c.scope.ensures.1

pub returns : goal.returns
returns c = renamed_end _ _ _ _ _ _ _ (search rules) (search rules) c.loop-k.invariant
