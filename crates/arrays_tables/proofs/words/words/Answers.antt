-- The sixteen numbers of a constraint, one after another. Assumes nothing.
use Rattle.model.specs.Kit.{refl, arith, rules}
use Rattle.model.proofs.Filling.{filled_begin, filled_turn, filled_end}
use Rattle.arrays_tables.proofs.words.words.Goals as goal

pub loop-n-init : goal.loop-n-init
loop-n-init c = filled_begin _ _ _

pub loop-n-preserved : goal.loop-n-preserved
loop-n-preserved c = filled_turn _ _ _ _ _ _ _ c.loop-n.invariant refl (omega arith) (λ v l e. omega arith) c.word.ensures

pub returns : goal.returns
returns c = filled_end _ _ _ _ _ _ (search rules) (search rules) c.loop-n.invariant

pub word-requires : goal.word-requires
word-requires c = record { k_bound = search rules; word = λ l v h. c.loop-n.invariant.here v (omega arith) }
