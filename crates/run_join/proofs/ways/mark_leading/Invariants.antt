use Rattle.run_join.proofs.Leads.{Marking, left}
use Rattle.run_join.proofs.ways.mark_leading.Given as goal

abbrev pub invariant-loop-next : goal.invariant-loop-next
invariant-loop-next here = Marking here.l here.n here.marks here.done

abbrev pub decreases-loop-next : goal.decreases-loop-next
decreases-loop-next l = left l.n l.done
