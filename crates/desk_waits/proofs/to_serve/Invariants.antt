use Rattle.desk_waits.proofs.{Finding.Quiet}
use Rattle.desk_waits.proofs.to_serve.Given as goal

abbrev pub invariant-loop-i : goal.invariant-loop-i
invariant-loop-i l = Quiet l.queue l.i
