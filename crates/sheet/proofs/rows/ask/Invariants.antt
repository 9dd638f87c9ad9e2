use Rattle.model.specs.Kit.{◌≤◌}
use Rattle.sheet.proofs.{RowTurn.RowsTo}
use Rattle.sheet.proofs.rows.ask.Given as goal

abbrev pub invariant-loop-i : goal.invariant-loop-i
invariant-loop-i l = (l.i ≤ l.n) × RowsTo l.sheet l.from l.a l.d l.base l.initial.supports l.i l.supports l.order l.least l.at
