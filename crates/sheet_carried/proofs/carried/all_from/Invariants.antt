use Rattle.model.specs.Kit.{◌+◌, ◌*◌, T}
use Rattle.model.specs.{Lists.at, ValueSets.has}
use Rattle.sheet_table.proofs.Laws.{Swept}
use Rattle.sheet_carried.proofs.carried.all_from.Given as goal

abbrev pub invariant-loop-u : goal.invariant-loop-u
invariant-loop-u l = Swept (λ u. T (has l.rows.bits (at l.moves (16 * l.z + u)))) l.fn.set.bits l.u-iterator.left.bits
