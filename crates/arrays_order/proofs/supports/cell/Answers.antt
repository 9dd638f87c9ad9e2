-- A cell of a column. Assumes nothing.
use Rattle.model.specs.Kit.{sym, ◌∙◌, rules, eq-eqb, ne_eqb}
use Rattle.model.proofs.Masks.{contains_op}
use Rattle.arrays_order.proofs.{Tables.cell_yes, Tables.cell_no}
use Rattle.arrays_order.proofs.supports.cell.Goals as goal

pub returns-then-s-w-eq1 : goal.returns-then-s-w-eq1
returns-then-s-w-eq1 c = cell_yes _ _ _ (search rules) (sym (contains_op _ _) ∙ eq-eqb _ _ c.if-s-w-eq1.true)

pub returns-else-s-w-eq1 : goal.returns-else-s-w-eq1
returns-else-s-w-eq1 c = cell_no _ _ _ (sym (contains_op _ _) ∙ ne_eqb _ _ c.if-s-w-eq1.false)
