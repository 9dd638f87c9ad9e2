use Rattle.model.specs.Kit.{◌≡◌, ◌+◌, ◌≤◌}
use Rattle.model.specs.Lists.{at}
use Rattle.families.specs.Inner.Numbered.{key_of}
use Rattle.families.proofs.key.Given as goal

abbrev pub invariant-loop-x : goal.invariant-loop-x
invariant-loop-x l = (l.x ≤ l.variables) × (l.r ≡ key_of l.x (λ x'. at l.rows (l.from + x')))
