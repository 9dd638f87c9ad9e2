use Rattle.run_join.specs.Join.{path_at}
use Rattle.run_join.proofs.Leads.{Back}
use Rattle.run_join.proofs.ways.mark_back.Given as goal

abbrev pub invariant-loop-k : goal.invariant-loop-k
invariant-loop-k l = Back (path_at l.here 0) l.l l.k l.initial.marks l.marks
