use Rattle.model.specs.Kit.{◌≡◌}
use Rattle.model.specs.{Problem.Problem, Lists.at, Inner.Filling.Gathered}
use Rattle.arrays.specs.{Inner.Tables.is_by_rows, Inner.Places.CONSTRAINTS, Inner.Layout.Numbers}
use Rattle.arrays_tables.proofs.linked.all_first.Given as goal

abbrev pub invariant-loop-k : goal.invariant-loop-k
invariant-loop-k l = (l.c ≡ at l.numbers CONSTRAINTS) × ((p : Problem) → Numbers p l.numbers → Gathered (is_by_rows p) l.k l.all)
