-- A set of one, or none. Assumes nothing.
use Rattle.model.specs.Kit.{Bool, sym, ap, ◌∙◌, rules}
use Rattle.model.specs.ValueSets.{one_if}
use Rattle.model.proofs.Members.{one_bit}
use Rattle.arrays_tables.proofs.sets.one_if.Goals as goal

pub returns-then-b : goal.returns-then-b
returns-then-b c = one_bit 64 _ (search rules) ∙ ap (λ (b : Bool). one_if b c.args.v) (sym c.if-b.true)

pub returns-else-b : goal.returns-else-b
returns-else-b c = ap (λ (b : Bool). one_if b c.args.v) (sym c.if-b.false)
