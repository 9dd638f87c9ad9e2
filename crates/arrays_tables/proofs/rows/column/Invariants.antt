use Rattle.model.specs.{Lists.at, ValueSets.has, Inner.Filling.Gathered}
use Rattle.arrays_tables.proofs.rows.column.Given as goal

abbrev pub invariant-loop-v : goal.invariant-loop-v
invariant-loop-v l = Gathered (λ u. has (at l.sets u) l.w) l.v l.all
