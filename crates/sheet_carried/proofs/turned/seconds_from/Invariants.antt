use Rattle.model.specs.Kit.{◌+◌, ◌*◌, ◌<◌}
use Rattle.model.specs.{Lists.at, Problem.Problem}
use Rattle.sheet_table.specs.Inner.Forbidden.{ThirdsFrom, Two}
use Rattle.sheet_table.proofs.{Laws.Swept}
use Rattle.sheet_carried.proofs.turned.seconds_from.Given as goal

abbrev pub invariant-loop-v : goal.invariant-loop-v
invariant-loop-v l =
    (p : Problem) → Two p l.numbers l.x l.z → l.y < p.variables →
    Swept (λ v. ThirdsFrom p l.supports l.moves (256 * l.k + at l.moves (16 * l.y + v)) (l.base + l.step * v) l.third l.x l.z) (at p.initial l.y) l.v-iterator.left.bits
