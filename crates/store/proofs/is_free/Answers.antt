-- `is_free`: the flag, then the first slot with its key. Assumes nothing.
use Rattle.model.specs.Kit.{sym, ap, ◌∙◌, ℕ, ◌+◌, ltb, rules, eq-eqb}
use Rattle.std.proofs.Common.{tests}
use Rattle.model.specs.Lists.{at}
use Rattle.store.specs.Inner.Layout.{slot_with}
use Rattle.store.proofs.{Slots.free_unheld, Slots.free_held, Slots.before_slot}
use Rattle.store.proofs.is_free.Goals as goal

pub returns-then-store-p-eq0 : goal.returns-then-store-p-eq0
unfolding at
returns-then-store-p-eq0 c =
    eq-eqb _ 0 c.if-store-p-eq0.true
    ∙ sym (free_unheld c.args.store.now c.args.owner c.args.i (ap (at c.args.store.now) (sym c.slot_at-p.ensures) ∙ c.if-store-p-eq0.true))

pub returns-else-store-p-eq0 : goal.returns-else-store-p-eq0
unfolding at
returns-else-store-p-eq0 c =
    before_slot _ _ c.args.i _ _ c.slot_with.ensures c.is_some_and.ensures (λ x q. search (rules, tests)) c.requires.2
    ∙ ap (λ (q : ℕ). ltb (slot_with c.args.store.now c.args.owner (at c.args.store.now (q + 1))) c.args.i) c.slot_at-p.ensures
    ∙ sym (free_held c.args.store.now c.args.owner c.args.i (λ z. c.if-store-p-eq0.false (ap (at c.args.store.now) c.slot_at-p.ensures ∙ z)))
