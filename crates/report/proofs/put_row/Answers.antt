-- `put_row`: the values passed are put. Assumes nothing.
use Rattle.model.specs.Kit.{refl, ap, ◌∙◌, subst, length, List, [], ℕ, ◌+◌, arith}
use Rattle.model.specs.{Lists.flat, Written.Written}
use Rattle.report.specs.{Report.decimal, Inner.Text.field, Inner.Text.fields}
use Rattle.model.proofs.Written.{written_none}
use Rattle.report.proofs.{Lines.fields_step, Lines.fields_part, Lines.row_turn, Lines.row_whole}
use Rattle.report.proofs.put_row.Goals as goal

start : (d : List ℕ) (at : ℕ) → Written d at (fields []) d at
unfolding fields flat
start d at = written_none d at

pub loop-value-init : goal.loop-value-init
loop-value-init c =
    (refl, start c.args.out.now c.args.at)

pub put_number-next-requires : goal.put_number-next-requires
put_number-next-requires c =
    omega (
      arith,
      ap (λ (x : ℕ). length (decimal x)) c.from.ensures,
      fields_step c.args.row.now c.loop-value.value-index (omega arith),
      fields_part c.args.row.now (c.loop-value.value-index + 1),
      c.loop-value.invariant.0,
      c.loop-value.invariant.1.ends,
      c.requires,
    )

pub loop-value-preserved : goal.loop-value-preserved
loop-value-preserved c = (
  c.put_number-next.auto.out ∙ c.loop-value.invariant.0,
  row_turn c.args.row.now (omega arith) (omega (arith, fields_part c.args.row.now c.loop-value.value-index, c.loop-value.invariant.1.ends, c.requires)) c.loop-value.invariant.1
      (subst (λ (x : ℕ). Written c.loop-value.out c.loop-value.next (field x) c.put_number-next.new.out c.put_number-next.result) c.from.ensures c.put_number-next.ensures),
)

pub returns : goal.returns
returns c = row_whole c.args.row.now (omega arith) c.loop-value.invariant.1

pub shape_of-out : goal.shape_of-out
shape_of-out c = c.loop-value.invariant.0
