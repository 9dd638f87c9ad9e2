use Rattle.model.specs.Kit.{◌≤◌}
use Rattle.sheet.proofs.ConstraintsTurn.{ConstraintsTo}
use Rattle.sheet.proofs.constraints.ask.Given as goal

abbrev pub invariant-loop-k : goal.invariant-loop-k
invariant-loop-k l = (l.k ≤ l.c) × ConstraintsTo l.sheet l.c l.initial.numbers l.initial.supports l.k l.o l.numbers l.supports
