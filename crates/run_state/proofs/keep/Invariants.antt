use Rattle.run_state.specs.Inner.Pair.{order_in}
use Rattle.run_state.proofs.{Written.Put}
use Rattle.run_state.proofs.keep.Given as goal

abbrev pub invariant-loop-i : goal.invariant-loop-i
invariant-loop-i l = Put l.start (order_in l.numbers l.n) l.work l.initial.list l.i l.list
