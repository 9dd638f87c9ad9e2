use Rattle.model.specs.Kit.{◌≡◌, ◌+◌, ◌*◌}
use Rattle.model.specs.{Lists.at, ValueSets.has, ValueSets.mask_of, Inner.Filling.Filled}
use Rattle.arrays_tables.proofs.rows.back.Given as goal

abbrev pub invariant-loop-w : goal.invariant-loop-w
invariant-loop-w l = Filled (λ u. l.from + 16 * u) (λ u r. r ≡ mask_of (λ v. has (at l.sets v) u)) l.w l.initial.tables l.tables
