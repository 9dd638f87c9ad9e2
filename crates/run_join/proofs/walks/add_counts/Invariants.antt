use Rattle.run_join.proofs.{Sums.Half}
use Rattle.run_join.proofs.walks.add_counts.Given as goal

abbrev pub invariant-loop-i : goal.invariant-loop-i
invariant-loop-i here = Half here.initial.sums here.l here.k here.i here.sums
