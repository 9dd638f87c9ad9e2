-- `slot_if`: one bit, or none. Assumes nothing.
use Rattle.model.specs.Kit.{Bool, sym, ap, ◌∙◌, rules}
use Rattle.model.specs.ValueSets.{one_if}
use Rattle.model.proofs.Members.{one_bit}
use Rattle.desk_waits.proofs.slot_if.Goals as goal

pub returns-then-b : goal.returns-then-b
returns-then-b c = one_bit 16 _ (search rules) ∙ ap (λ (b : Bool). one_if b c.args.k) (sym c.if-b.true)
