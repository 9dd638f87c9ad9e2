use Rattle.model.specs.Kit.{◌*◌}
use Rattle.arrays_tables.proofs.{Lanes.Spreading}
use Rattle.arrays_tables.proofs.spreads.spreads.Given as goal

abbrev pub invariant-loop-h : goal.invariant-loop-h
invariant-loop-h l = Spreading (2 * l.h) l.initial.numbers l.numbers
