use Rattle.arrays_order.specs.Inner.Steps.{Renamed}
use Rattle.arrays_order.proofs.constraints.rename.Given as goal

abbrev pub invariant-loop-k : goal.invariant-loop-k
invariant-loop-k l = Renamed l.stands l.k l.initial.numbers l.initial.supports l.numbers l.supports
