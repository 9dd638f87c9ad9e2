-- The set of one value, or none. Assumes nothing.
use Rattle.model.specs.Kit.{sym, ap, ◌∙◌, Bool, ℕ, rules}
use Rattle.model.specs.ValueSets.{only_mask, one_if}
use Rattle.model.proofs.Members.{one_op}
use Rattle.prune_constraints.proofs.one_if.Goals as goal

pub returns-then-b : goal.returns-then-b
returns-then-b c = c.only.ensures ∙ ap (λ (n : ℕ). only_mask n c.args.v) c.full.ensures ∙ one_op c.args.v (search rules) ∙ ap (λ (b : Bool). one_if b c.args.v)
    (sym c.if-b.true)
