use Rattle.model.specs.Kit.{◌≤◌}
use Rattle.sheet.proofs.TablesTurn.{TablesTo}
use Rattle.sheet.proofs.tables.ask.Given as goal

abbrev pub invariant-loop-e : goal.invariant-loop-e
invariant-loop-e l = (l.e ≤ l.g) × TablesTo l.sheet l.e l.at
