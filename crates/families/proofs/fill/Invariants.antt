use Rattle.model.specs.Kit.{◌≡◌, ◌≤◌, length}
use Rattle.model.specs.{Problem.Problem}
use Rattle.families.specs.{Families.solutions_of, Inner.Numbered.Chained, Inner.Numbered.Unlinked, Inner.Numbered.Listed}
use Rattle.families.proofs.fill.Given as goal

abbrev pub invariant-loop-i : goal.invariant-loop-i
invariant-loop-i l =
    (l.i ≤ l.solutions) × (length l.keys ≡ 4096) × (length l.heads ≡ 1021)
    × ((p : Problem) → Listed p l.rows l.variables → l.solutions ≡ length (solutions_of p) → Unlinked l.initial.heads → Chained p l.keys l.heads l.i)
