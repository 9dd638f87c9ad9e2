use Rattle.model.specs.Kit.{◌≡◌, ◌≤◌}
use Rattle.model.specs.{Lists.at, Inner.Filling.Filled}
use Rattle.arrays.specs.Inner.Places.{IMAGES}
use Rattle.arrays_block.proofs.widen.Given as goal

abbrev pub invariant-loop-j : goal.invariant-loop-j
invariant-loop-j l = (l.j ≤ IMAGES) × Filled (λ i. i) (λ i w. w ≡ at l.images i) l.j l.initial.wide l.wide
