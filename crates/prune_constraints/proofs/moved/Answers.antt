-- The set of a variable whose set changed, or none. Assumes nothing.
use Rattle.model.specs.Kit.{sym, ap, ◌∙◌, Bool, not, rules, eq-eqb, ne_eqb}
use Rattle.model.specs.ValueSets.{one_if}
use Rattle.model.proofs.Members.{one_bit}
use Rattle.prune_constraints.proofs.moved.Goals as goal

pub returns-then-b-a : goal.returns-then-b-a
returns-then-b-a c = one_bit 64 _ (search rules) ∙ ap (λ (b : Bool). one_if (not b) c.args.x) (sym (ne_eqb _ _ c.if-b-a.true))

pub returns-else-b-a : goal.returns-else-b-a
returns-else-b-a c = ap (λ (b : Bool). one_if (not b) c.args.x) (sym (eq-eqb _ _ c.if-b-a.false))
