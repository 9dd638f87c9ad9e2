-- A loose variable. Assumes nothing.
use Rattle.model.specs.Kit.{refl, sym, ap, subst, ◌∙◌, arith, T, eqb-true}
use Rattle.model.specs.{Lists.at, ValueSets.common_mask}
use Rattle.arrays_tables.proofs.{LooseVariables.loose_begin, LooseVariables.loose_turn, LooseVariables.loose_end}
use Rattle.arrays_tables.proofs.loose.is_loose.Goals as goal

pub loop-y-init : goal.loop-y-init
unfolding at
loop-y-init c = (refl, c.initial-m.ensures, loose_begin _ _ _)

pub returns-then-not-is_empty : goal.returns-then-not-is_empty
returns-then-not-is_empty c = λ e. absurd (subst T (sym e) tt)

pub loop-y-preserved : goal.loop-y-preserved
unfolding at
loop-y-preserved c = (
  refl,
  c.loop-y.invariant.1,
  loose_turn _ _ _ _ _ _ _ c.loop-y.invariant.1 c.loop-y.invariant.2 c.twice.ensures
      (c.common-lost.ensures ∙ ap (common_mask c.twice.result.bits) c.initial.ensures)
      (eqb-true _ 0 (sym c.is_empty.ensures ∙ c.if-not-is_empty.false)),
)

pub returns : goal.returns
returns c = λ e. loose_end _ _ _ _ _ (omega (arith, c.loop-y.invariant.0)) c.loop-y.invariant.2
