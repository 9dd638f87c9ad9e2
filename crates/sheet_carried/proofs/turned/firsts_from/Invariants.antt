use Rattle.model.specs.Kit.{◌+◌, ◌*◌, T}
use Rattle.model.specs.{Lists.at, ValueSets.has}
use Rattle.sheet_table.proofs.Laws.{Swept}
use Rattle.sheet_carried.proofs.turned.firsts_from.Given as goal

abbrev pub invariant-loop-t : goal.invariant-loop-t
invariant-loop-t l = Swept (λ t. T (has (at l.supports (l.from + 16 * at l.moves (16 * l.x + t))) l.w)) l.fn.set.bits l.t-iterator.left.bits
