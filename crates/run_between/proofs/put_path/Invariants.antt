use Rattle.run_between.proofs.{Ends.Putting}
use Rattle.run_between.proofs.put_path.Given as goal

abbrev pub invariant-loop-i : goal.invariant-loop-i
invariant-loop-i l = Putting l.path l.initial.work l.work l.i
