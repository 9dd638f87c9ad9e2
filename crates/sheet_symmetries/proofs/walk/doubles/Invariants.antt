use Rattle.model.specs.Kit.{◌<◌}
use Rattle.model.specs.Problem.{Problem}
use Rattle.sheet_table.specs.Inner.Forbidden.{Lent, Doubling}
use Rattle.sheet_symmetries.proofs.walk.doubles.Given as goal

abbrev pub invariant-loop-v : goal.invariant-loop-v
invariant-loop-v l = (p : Problem) → Lent p l.numbers l.supports l.codes l.moves → l.x < p.variables → Doubling p l.codes l.x l.values.left.bits
