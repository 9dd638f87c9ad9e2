use Rattle.model.specs.Kit.{◌/◌, length}
use Rattle.order.specs.Inner.Settled.{Befores}
use Rattle.order.proofs.{Placing.Placing}
use Rattle.order.proofs.settle.Given as goal

abbrev pub invariant-loop-k : goal.invariant-loop-k
invariant-loop-k l = Befores l.pairs (length l.pairs / 2) l.befores × Placing l.n l.pairs l.k l.settled l.initial.places l.places
