use Rattle.model.specs.Kit.{sym, ◌∙◌, lt_of_le_of_lt, arith, eq-eqb, lit<}
use lib.Count.{trailing_le}
use Rattle.model.proofs.{Lists.T_of, Masks.contains_op, Members.low_has}
use Rattle.sheet_carried.proofs.carried.pick.Goals as goal

pub returns-then-set-k-eq1 : goal.returns-then-set-k-eq1
returns-then-set-k-eq1 c = T_of _ (sym (contains_op _ _) ∙ eq-eqb _ _ c.if-set-k-eq1.true)

pub returns : goal.returns
returns c = (low_has 64 _ (omega arith) c.ranges.set.fits).0

pub overflow_cast-result : goal.overflow_cast-result
overflow_cast-result c = record { fits = lt_of_le_of_lt (trailing_le 64 _) (lit< tt) }
