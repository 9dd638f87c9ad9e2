use Rattle.model.specs.Kit.{◌+◌, ◌*◌}
use Rattle.model.specs.{Lists.at, Problem.Problem}
use Rattle.sheet_table.specs.Inner.Forbidden.{FirstsFrom, Two}
use Rattle.sheet_table.proofs.{Laws.Swept}
use Rattle.sheet_carried.proofs.turned.thirds_from.Given as goal

abbrev pub invariant-loop-u : goal.invariant-loop-u
invariant-loop-u l =
    (p : Problem) → Two p l.numbers l.x l.z → Swept (λ u. FirstsFrom p l.supports l.moves l.from (l.base + l.step * u) l.x (at l.moves (16 * l.z + u))) (at p.initial l.z) l.u-iterator.left.bits
