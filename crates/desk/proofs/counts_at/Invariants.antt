use Rattle.model.specs.Kit.{◌≡◌, ◌+◌, ◌*◌, min}
use Rattle.model.specs.{Inner.Filling.Filled}
use Rattle.desk.specs.{Inner.Places.COUNTS, Inner.Layout.long, Inner.Layout.nodes_at}
use Rattle.desk.proofs.counts_at.Given as goal

abbrev pub invariant-loop-x : goal.invariant-loop-x
invariant-loop-x l = Filled (λ i. i) (λ i w. w ≡ min (nodes_at l.queue l.p) (long l.queue (l.p + COUNTS + 4 * i))) l.x l.initial.counts l.counts
