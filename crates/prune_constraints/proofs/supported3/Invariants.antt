use Rattle.model.specs.Kit.{ℕ}
use Rattle.prune_constraints.specs.Inner.Steps.{Masks}
use Rattle.prune_constraints.proofs.{Sixteen.Supporting3}
use Rattle.prune_constraints.proofs.supported3.Given as goal

abbrev pub invariant-loop-masks : goal.invariant-loop-masks
invariant-loop-masks l = (e : ℕ) → Masks l.b.bits e l.masks → Supporting3 l.supports l.base l.initial.left.bits l.b.bits e l.left.bits l.first.bits l.last l.all

abbrev pub decreases-loop-masks : goal.decreases-loop-masks
decreases-loop-masks l = l.left.bits
