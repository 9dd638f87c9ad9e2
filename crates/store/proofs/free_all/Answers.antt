-- `free_all`: after i turns the first i slots are freed. Assumes nothing.
use Rattle.model.specs.Kit.{refl, sym, ap, ◌∙◌, length, length-set, arith}
use native.Mathlib.Nat.{le_antisymm}
use Rattle.store.specs.Inner.Layout.{freed}
use Rattle.store.proofs.{Slots.freed_taken, Slots.freed_left}
use Rattle.store.proofs.free_all.Goals as goal
use Rattle.store.proofs.free_all.Goals.{else-holds, then-holds}

pub loop-i-init : goal.loop-i-init
unfolding freed
loop-i-init c = (refl, refl)

pub loop-i-preserved : goal.loop-i-preserved
loop-i-preserved c =
    (elim c.if-holds.branch [
      | then-holds w ↦ (
        w.store-is ∙ freed_taken c.args.store.now c.args.owner c.args.key c.loop-i.store c.loop-i.i c.slot_at-p.result c.loop-i.invariant.0 c.slot_at-p.ensures (sym c.holds.ensures ∙ w.if-holds.true),
        ap length w.store-is
            ∙ length-set c.loop-i.store c.slot_at-p.result 0 ∙ c.loop-i.invariant.1,
      )
      | else-holds w ↦ (
        w.store-is
            ∙ freed_left c.args.store.now c.args.owner c.args.key c.loop-i.store c.loop-i.i c.slot_at-p.result c.loop-i.invariant.0 c.slot_at-p.ensures (sym c.holds.ensures ∙ w.if-holds.false),
        ap length w.store-is ∙ c.loop-i.invariant.1,
      )
    ])

pub returns : goal.returns
returns c = c.loop-i.invariant.0 ∙ ap (freed _ _ _) (le_antisymm (omega arith) (omega arith))

pub shape_of-store : goal.shape_of-store
shape_of-store c = c.loop-i.invariant.1
