use Rattle.model.specs.Kit.{◌+◌, ◌*◌}
use Rattle.model.specs.{Lists.at, Problem.Problem}
use Rattle.sheet_table.specs.Inner.Forbidden.{Across, FromRows}
use Rattle.sheet_table.proofs.{Laws.Swept}
use Rattle.sheet_carried.proofs.carried.from_rows.Given as goal

abbrev pub invariant-loop-v : goal.invariant-loop-v
invariant-loop-v l = (p : Problem) → Across p l.numbers l.supports l.m l.a l.y l.z → Swept (λ v. FromRows p l.supports l.moves l.from l.a (16 * l.y + v) l.z) (at p.initial l.y)
    l.v-iterator.left.bits
