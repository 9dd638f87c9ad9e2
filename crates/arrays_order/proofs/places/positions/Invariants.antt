use Rattle.model.specs.Kit.{◌≡◌}
use Rattle.model.specs.Inner.Filling.{Filled}
use Rattle.arrays_order.specs.Inner.Steps.{stand}
use Rattle.arrays_order.proofs.places.positions.Given as goal

abbrev pub invariant-loop-x : goal.invariant-loop-x
invariant-loop-x l = Filled (λ y. y) (λ y r. r ≡ stand l.n l.order y) l.x l.initial.stands l.stands
