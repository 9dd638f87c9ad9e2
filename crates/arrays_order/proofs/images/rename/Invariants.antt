use Rattle.arrays_order.specs.Inner.Steps.{MovedImages}
use Rattle.arrays_order.proofs.images.rename.Given as goal

abbrev pub invariant-loop-e : goal.invariant-loop-e
invariant-loop-e l = MovedImages l.order.n l.order.variables l.stands l.e l.initial.images l.images
