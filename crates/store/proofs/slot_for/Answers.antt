-- `slot_for`: the slot with the key, or the free one. Assumes nothing.
use Rattle.model.specs.Kit.{sym, ap, ◌∙◌, arith}
use Rattle.store.specs.Inner.Layout.{slot_in}
use Rattle.store.proofs.{Slots.for_held, Slots.for_free, Slots.slot_some, Slots.slot_is, Slots.slot_not}
use Rattle.store.proofs.slot_for.Goals as goal

pub returns-in-Some : goal.returns-in-Some
returns-in-Some c =
    let held = slot_is _ _ c.in-Some.ensures in
    slot_some _ _ (for_held c.args.store.now c.args.owner c.args.key (omega (arith, held.0, held.1)) ∙ held.0) held.1

pub returns-in-None : goal.returns-in-None
returns-in-None c =
    c.free_slot.ensures ∙ ap slot_in (sym (for_free c.args.store.now c.args.owner c.args.key (slot_not _ c.in-None.ensures)))
