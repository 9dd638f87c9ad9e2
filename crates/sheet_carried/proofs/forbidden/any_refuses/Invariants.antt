use Rattle.model.specs.Kit.{◌^◌, ◌<◌, length}
use Rattle.model.specs.Problem.{Problem}
use Rattle.sheet_table.specs.Inner.Forbidden.{Triple, Pending}
use Rattle.sheet_carried.proofs.forbidden.any_refuses.Given as goal

abbrev pub invariant-loop-pending : goal.invariant-loop-pending
invariant-loop-pending l = (p : Problem) → Triple p l.numbers l.supports l.a l.b l.e → l.set < 2 ^ length p.constraints → Pending p l.a l.b l.e l.set l.pending

abbrev pub decreases-loop-pending : goal.decreases-loop-pending
decreases-loop-pending l = l.pending
