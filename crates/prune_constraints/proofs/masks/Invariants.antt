use Rattle.model.specs.Kit.{◌≡◌, ◌≤◌, replicate}
use Rattle.model.specs.{Lists.choose, ValueSets.has, Inner.Filling.Filled}
use Rattle.prune_constraints.proofs.masks.Given as goal

abbrev pub invariant-loop-v : goal.invariant-loop-v
invariant-loop-v l = (l.v ≤ 16) × Filled (λ i. i) (λ i x. x ≡ choose (has l.b.bits i) l.e.bits 0) l.v (replicate 16 0) l.all
