use Rattle.model.specs.Kit.{◌+◌, ◌*◌, ◌≤◌, eqb}
use Rattle.model.specs.{Lists.at, Inner.Filling.Gathered}
use Rattle.arrays.specs.Inner.Places.{MARKS, OBEYED}
use Rattle.run_key.proofs.{Loops.PassedBy}
use Rattle.run_key.proofs.marks_at.Given as goal

abbrev pub invariant-loop-e : goal.invariant-loop-e
invariant-loop-e l = (l.e ≤ l.g) × (l.low ≤ l.k) × PassedBy (λ f. at l.work (16 * l.k + MARKS + f)) l.e l.low × Gathered (λ f. eqb (at l.work (16 * l.k + MARKS + f)) OBEYED) l.e l.good
