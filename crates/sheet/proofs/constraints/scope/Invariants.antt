use Rattle.model.specs.Kit.{◌≤◌}
use Rattle.sheet.proofs.ScopeTurn.{ScopeTo}
use Rattle.sheet.proofs.constraints.scope.Given as goal

abbrev pub invariant-loop-i : goal.invariant-loop-i
invariant-loop-i l = (l.i ≤ l.a) × ScopeTo l.sheet l.from l.a l.n l.k l.initial.numbers l.i l.numbers l.packed l.unit l.least
