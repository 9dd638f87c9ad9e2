-- The first constraints, one after another. Assumes nothing.
use Rattle.model.specs.Kit.{Bool, refl, ap, ◌∙◌, arith}
use Rattle.model.specs.{Lists.at, ValueSets.one_if}
use Rattle.model.proofs.Filling.{gathered_begin, gathered_turn, gathered_end}
use Rattle.arrays_tables.proofs.linked.all_first.Goals as goal

pub loop-k-init : goal.loop-k-init
unfolding at
loop-k-init c = (refl, λ p nb. gathered_begin _)

pub loop-k-preserved : goal.loop-k-preserved
loop-k-preserved c = (
  c.loop-k.invariant.0,
  λ p nb. gathered_turn _ _ _ _ (c.loop-k.invariant.1 p nb)
      (c.one_if-all.ensures ∙ ap (λ (b : Bool). one_if b c.loop-k.k)
      (c.first.ensures p nb (omega (arith, nb.constraints, c.loop-k.invariant.0)))),
)

pub returns : goal.returns
returns c = λ p nb. gathered_end _ _ _ _ (omega (arith, nb.constraints, c.loop-k.invariant.0)) (omega (arith, nb.constraints, c.loop-k.invariant.0)) (c.loop-k.invariant.1 p nb)
