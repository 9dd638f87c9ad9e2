use Rattle.model.specs.Kit.{ap, ◌∙◌, ℕ, ◌+◌, ◌/◌, ◌%◌, arith, set}
use Rattle.model.specs.{Lists.at, ValueSets.union_mask, ValueSets.only_mask}
use Rattle.model.proofs.Members.{one_op}
use Rattle.sheet.specs.Inner.Fill.{with_row}
use Rattle.sheet.proofs.rows.add_row.Goals as goal

pub returns : goal.returns
unfolding with_row at
returns c = ap (set c.args.supports.now (c.args.base + c.args.key / 16))
    (c.union.ensures ∙ ap (union_mask _) (c.only-last.ensures ∙ ap (λ (f : ℕ). only_mask f (c.args.key % 16)) c.full.ensures ∙ one_op
    (c.args.key % 16) (omega arith)))
