-- A column of sixteen sets. Assumes nothing.
use Rattle.model.specs.Kit.{Bool, not, ap, ◌∙◌, ℕ, rules}
use Rattle.model.specs.{Lists.at, ValueSets.only_mask, ValueSets.one_if}
use Rattle.model.proofs.{Members.one_op, Filling.gathered_begin, Filling.gathered_turn, Filling.gathered_end}
use Rattle.arrays_tables.proofs.{RowTables.meets_one, RowTables.gathered_mask}
use Rattle.arrays_tables.proofs.rows.column.Goals as goal

pub loop-v-init : goal.loop-v-init
loop-v-init c = gathered_begin _

pub loop-v-preserved : goal.loop-v-preserved
unfolding at
loop-v-preserved c =
    let is = c.only-one.ensures ∙ ap (λ (n : ℕ). only_mask n c.args.w) c.full.ensures ∙ one_op _ c.requires in
    let found = ap not c.is_empty.ensures ∙ meets_one _ _ _ _ c.requires is c.common.ensures in
    (gathered_turn _ _ _ _ c.loop-v.invariant (c.one_if-all.ensures ∙ ap (λ (b : Bool). one_if b c.loop-v.v) found))

pub returns : goal.returns
returns c = gathered_mask _ _ (gathered_end _ _ _ _ (search rules) (search rules) c.loop-v.invariant)
