-- `free_slot`: after i turns the first i slots are not free. Assumes nothing.
use Rattle.model.specs.Kit.{sym, ◌∙◌, arith, below_more}
use Rattle.store.specs.Inner.Layout.{is_free}
use Rattle.model.proofs.Least.{first_is}
use Rattle.store.proofs.Slots.{slot_some, slot_none}
use Rattle.store.proofs.free_slot.Goals as goal

pub loop-i-init : goal.loop-i-init
loop-i-init c = λ j h. absurd (omega arith)

pub returns-then-is_free : goal.returns-then-is_free
returns-then-is_free c =
    slot_some _ c.loop-i.i (first_is (is_free c.args.store.now c.args.owner) 4 c.loop-i.i (omega arith) c.loop-i.invariant (λ h. sym c.is_free.ensures ∙ c.if-is_free.true)) (omega arith)

pub loop-i-preserved : goal.loop-i-preserved
loop-i-preserved c = below_more _ _ c.loop-i.invariant (sym c.is_free.ensures ∙ c.if-is_free.false)

pub returns : goal.returns
returns c =
    slot_none _ (omega (arith, first_is (is_free c.args.store.now c.args.owner) 4 c.loop-i.i (omega arith) c.loop-i.invariant (λ h. absurd (omega arith))))
