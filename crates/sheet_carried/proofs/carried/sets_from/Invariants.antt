use Rattle.model.specs.Kit.{◌+◌, ◌*◌, ◌<◌}
use Rattle.model.specs.{Lists.at, Problem.Problem}
use Rattle.sheet_table.specs.{Inner.Table.Framed, Inner.Forbidden.SetFrom}
use Rattle.sheet_table.proofs.{Laws.Swept}
use Rattle.sheet_carried.proofs.carried.sets_from.Given as goal

abbrev pub invariant-loop-v : goal.invariant-loop-v
invariant-loop-v l = (p : Problem) → Framed p l.numbers → l.y < p.variables → l.z < p.variables → Swept
    (λ v. SetFrom p l.supports l.moves l.from (l.base + l.step * v) (16 * l.y + v) l.z) (at p.initial l.y) l.v-iterator.left.bits
