use Rattle.model.specs.Kit.{◌≡◌, ◌+◌, ◌*◌}
use Rattle.model.specs.{Lists.at, Inner.Filling.Filled}
use Rattle.arrays_tables.proofs.rows.across.Given as goal

abbrev pub invariant-loop-v : goal.invariant-loop-v
invariant-loop-v l = Filled (λ u. l.from + 16 * u) (λ u r. r ≡ at l.sets u) l.v l.initial.tables l.tables
