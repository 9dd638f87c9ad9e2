use Rattle.run_join.specs.Join.{head_number}
use Rattle.run_join.proofs.Sums.{Underway}
use Rattle.run_join.proofs.walks.walk.Given as goal

abbrev pub invariant-loop-j : goal.invariant-loop-j
invariant-loop-j here = Underway here.l here.n here._j (head_number here.w.stand) here.w.plans here.w.nodes here.w.counts
