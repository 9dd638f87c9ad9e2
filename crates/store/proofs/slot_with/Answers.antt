-- `slot_with`: after i turns the first i slots do not hold the key. Assumes nothing.
use Rattle.model.specs.Kit.{sym, ap, ◌∙◌, arith, below_more}
use Rattle.store.specs.Inner.Layout.{holds}
use Rattle.store.proofs.{Slots.with_is, Slots.slot_some, Slots.slot_none}
use Rattle.store.proofs.slot_with.Goals as goal

pub loop-i-init : goal.loop-i-init
loop-i-init c = λ j h. absurd (omega arith)

pub returns-then-holds : goal.returns-then-holds
returns-then-holds c =
    slot_some _ c.loop-i.i (with_is c.args.store.now c.args.owner c.args.key c.loop-i.i (omega arith) c.loop-i.invariant
    (λ h. ap (holds c.args.store.now c.args.key) (sym c.slot_at.ensures) ∙ sym c.holds.ensures ∙ c.if-holds.true)) (omega arith)

pub loop-i-preserved : goal.loop-i-preserved
loop-i-preserved c =
    below_more _ _ c.loop-i.invariant (ap (holds c.args.store.now c.args.key) (sym c.slot_at.ensures) ∙ sym c.holds.ensures ∙ c.if-holds.false)

pub returns : goal.returns
returns c =
    slot_none _ (omega (arith, with_is c.args.store.now c.args.owner c.args.key c.loop-i.i (omega arith) c.loop-i.invariant (λ h. absurd (omega arith))))
