-- The unions of one constraint after another. Assumes nothing.
use Rattle.model.specs.Kit.{◌≡◌, refl, sym, ap, ◌∙◌, subst₂, ◌⊎◌, inl, inr, ⊎_elim, ◌+◌, arith, rules}
use Rattle.model.specs.Lists.{at}
use Rattle.arrays.specs.{Inner.Places.SCOPES, Inner.Layout.arity_in}
use Rattle.arrays_tables.specs.Inner.Steps.{Unions}
use Rattle.arrays_tables.proofs.{UnionTables.unions_begin, UnionTables.unions_turn, UnionTables.unions_end}
use Rattle.arrays_tables.proofs.unions.unions.Goals as goal
use Rattle.arrays_tables.proofs.unions.unions.Goals.{else-arity-eq3, then-arity-eq3}

pub loop-k-init : goal.loop-k-init
loop-k-init c = (search rules, unions_begin _ _)

pub loop-k-preserved : goal.loop-k-preserved
unfolding at
loop-k-preserved c =
    let counted : (c.if-arity-eq3.some ≡ c.loop-k.some + 1) ⊎ (c.if-arity-eq3.some ≡ c.loop-k.some) =
    (elim c.if-arity-eq3.branch [ then-arity-eq3 w ↦ inl w.some-is | else-arity-eq3 w ↦ inr w.some-is ]) in (
      ⊎_elim (λ e. omega (arith, c.loop-k.invariant.0, e)) (λ e. omega (arith, c.loop-k.invariant.0, e)) counted,
      (elim c.if-arity-eq3.branch [
        | then-arity-eq3 w ↦ subst₂ (Unions _ _ _) (sym w.numbers-is) (sym w.some-is)
            (unions_turn _ _ _ _ _ _ _ c.loop-k.invariant.1 w.unite.ensures.size (λ j h. w.unite.ensures.other j (λ v l e. omega arith)) (omega arith) (λ t. (w.unite.ensures.here, omega arith)))
        | else-arity-eq3 w ↦ subst₂ (Unions _ _ _) (sym w.numbers-is) (sym w.some-is) (unions_turn _ _ _ _ _ _ _ c.loop-k.invariant.1 refl (λ j h. refl) (omega arith)
            (λ t. absurd (w.if-arity-eq3.false (c.arity.ensures ∙ ap arity_in (c.loop-k.invariant.1.kept (SCOPES + c.loop-k.k) (omega arith)) ∙ t))))
      ]),
    )

pub returns : goal.returns
returns c = unions_end _ _ _ _ _ (search rules) (search rules) c.loop-k.invariant.1
