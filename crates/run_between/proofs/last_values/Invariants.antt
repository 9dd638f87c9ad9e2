use Rattle.run_between.proofs.{Ends.Valuing}
use Rattle.run_between.proofs.last_values.Given as goal

abbrev pub invariant-loop-i : goal.invariant-loop-i
invariant-loop-i l = Valuing l.work l.i l.last
