use Rattle.model.specs.Kit.{sym, ◌∙◌, subst, ℕ, ◌+◌, ◌*◌, arith, T}
use Rattle.model.specs.{Lists.at, ValueSets.has}
use Rattle.model.proofs.{Lists.T_of}
use Rattle.sheet_table.proofs.Laws.{swept_none, swept_over, swept_small, swept_rest}
use Rattle.sheet_carried.proofs.turned.firsts_from.Goals as goal

pub loop-t-init : goal.loop-t-init
loop-t-init c = rw c.into_iter-t-iterator.ensures.into_iter_gives (swept_none _ _ _ c.members-t-items.ensures c.requires.1)

pub loop-t-preserved : goal.loop-t-preserved
loop-t-preserved c =
    swept_rest c.loop-t.invariant c.in-Some.ensures.steps
    (subst (λ (v : ℕ). T (has (at c.args.supports.now (c.args.from + 16 * v)) c.args.w)) c.place-v.ensures.0
    (subst (λ (r : ℕ). T (has r c.args.w)) c.support.ensures (T_of _ (sym c.contains.ensures ∙ c.if-not-contains.false))))

pub returns : goal.returns
returns c = λ q. swept_over c.loop-t.invariant c.in-None.ensures.steps

pub place-v-requires : goal.place-v-requires
place-v-requires c =
    omega (arith, swept_small c.loop-t.invariant c.in-Some.ensures.steps)

pub support-requires : goal.support-requires
support-requires c = omega (arith, c.requires.3, c.place-v.ensures.0, c.requires.4 (16 * c.args.x + c.in-Some.t))
