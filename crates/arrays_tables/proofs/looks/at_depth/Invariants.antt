use Rattle.model.specs.Kit.{◌≡◌, ◌+◌, ◌*◌}
use Rattle.model.specs.{Lists.at, Inner.Filling.Gathered}
use Rattle.arrays.specs.Inner.Places.{CONSTRAINTS}
use Rattle.arrays_tables.proofs.{LookScopes.is_look}
use Rattle.arrays_tables.proofs.looks.at_depth.Given as goal

abbrev pub invariant-loop-i : goal.invariant-loop-i
invariant-loop-i l = (l.c ≡ at l.numbers CONSTRAINTS) × (l.key ≡ 3 + 256 * l.k) × Gathered (is_look l.numbers l.k) l.i l.all
