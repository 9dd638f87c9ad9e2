use Rattle.model.specs.Kit.{◌≤◌}
use Rattle.arrays_tables.specs.Inner.Steps.{Unions}
use Rattle.arrays_tables.proofs.unions.unions.Given as goal

abbrev pub invariant-loop-k : goal.invariant-loop-k
invariant-loop-k l = (l.some ≤ l.k) × Unions l.supports l.k l.initial.numbers l.numbers l.some
