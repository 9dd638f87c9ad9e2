use Rattle.model.specs.Kit.{◌≡◌, ◌+◌, ◌*◌, ◌/◌, ◌<◌}
use Rattle.model.specs.{Lists.at, Problem.Problem}
use Rattle.sheet_table.specs.Inner.Table.{Framed}
use Rattle.sheet_table.proofs.{Laws.Swept}
use Rattle.sheet_table.proofs.moves.goes_to.Given as goal

abbrev pub invariant-loop-v : goal.invariant-loop-v
invariant-loop-v l = (p : Problem) → Framed p l.numbers → l.x < p.variables → Swept (λ v. at l.codes (16 * l.x + v) / 16 ≡ l.y) (at p.initial l.x) l.v-iterator.left.bits
