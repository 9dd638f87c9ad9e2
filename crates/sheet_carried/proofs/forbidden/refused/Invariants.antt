use Rattle.model.specs.Kit.{◌<◌, length}
use Rattle.model.specs.Problem.{Problem, constraint_at}
use Rattle.sheet_table.specs.{Inner.Table.Ready, Inner.Forbidden.LookedUp}
use Rattle.sheet_carried.proofs.forbidden.refused.Given as goal

abbrev pub invariant-loop-i : goal.invariant-loop-i
invariant-loop-i l = (p : Problem) → Ready p l.numbers l.supports → l.k < length p.constraints → LookedUp (constraint_at p l.k) l.a l.b l.e l.i l.key
