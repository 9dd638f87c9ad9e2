use Rattle.model.specs.Kit.{◌≡◌, ℕ, ◌+◌, ◌<◌}
use Rattle.model.specs.{Lists.at, Inner.Filling.Filled}
use Rattle.arrays_order.specs.Inner.Steps.{renamed_to, image_from}
use Rattle.arrays_order.proofs.images.symmetry.Given as goal

abbrev pub invariant-loop-j : goal.invariant-loop-j
invariant-loop-j l = ((i : ℕ) → i < 192 → at l.old i ≡ at l.initial.images (l.from + i)) × Filled (λ i. l.from + i)
    (λ i r. r ≡ renamed_to l.stands (at l.initial.images (l.from + image_from l.order.variables i))) l.j l.initial.images l.images
