use Rattle.model.specs.Kit.{sym, ◌∙◌, subst, ℕ, arith, T}
use Rattle.model.specs.{ValueSets.has}
use Rattle.model.proofs.{Lists.T_of}
use Rattle.sheet_table.proofs.Laws.{swept_none, swept_over, swept_small, swept_rest}
use Rattle.sheet_carried.proofs.carried.all_from.Goals as goal

pub loop-u-init : goal.loop-u-init
loop-u-init c = rw c.into_iter-u-iterator.ensures.into_iter_gives (swept_none _ _ _ c.members-u-items.ensures c.requires.1)

pub loop-u-preserved : goal.loop-u-preserved
loop-u-preserved c =
    swept_rest c.loop-u.invariant c.in-Some.ensures.steps
    (subst (λ (v : ℕ). T (has c.args.rows.bits v)) c.place.ensures.0
    (T_of _ (sym c.contains.ensures ∙ c.if-not-contains.false)))

pub returns : goal.returns
returns c = λ q. swept_over c.loop-u.invariant c.in-None.ensures.steps

pub place-requires : goal.place-requires
place-requires c =
    omega (arith, swept_small c.loop-u.invariant c.in-Some.ensures.steps)
