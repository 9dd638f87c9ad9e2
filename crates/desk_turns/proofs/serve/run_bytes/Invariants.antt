use Rattle.desk_turns.proofs.{Telling.ToldTo}
use Rattle.desk_turns.proofs.serve.run_bytes.Given as goal

abbrev pub invariant-loop-i : goal.invariant-loop-i
invariant-loop-i l = ToldTo l.work l.i l.initial.bytes l.bytes
