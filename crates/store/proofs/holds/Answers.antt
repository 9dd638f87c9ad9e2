-- `holds`: the flag, then the key. Assumes nothing.
use Rattle.model.specs.Kit.{sym, ap, ◌∙◌, not, eq-eqb}
use Rattle.model.specs.Lists.{at}
use Rattle.store.proofs.{Slots.holds_free, Slots.holds_held}
use Rattle.store.proofs.holds.Goals as goal

pub returns-else-store-p-ne0 : goal.returns-else-store-p-ne0
unfolding at
returns-else-store-p-ne0 c = ap not (eq-eqb _ 0 c.if-store-p-ne0.false) ∙ sym (holds_free c.args.store.now c.args.key c.args.p c.if-store-p-ne0.false)

pub returns-then-store-p-ne0 : goal.returns-then-store-p-ne0
unfolding at
returns-then-store-p-ne0 c = sym (holds_held c.args.store.now c.args.key c.args.p c.if-store-p-ne0.true)
