use Rattle.model.specs.Kit.{[], Bool, List, ℕ, ◌≡◌, ◌≤◌, length, drop}
use Rattle.model.specs.{Lists.all, Problem.Problem, Problem.Constraint}
use Rattle.sheet_table.specs.Inner.Forbidden.{Lent, keeps}
use Rattle.sheet_symmetries.proofs.walk.constraints.Given as goal

abbrev pub kept : Problem → List ℕ → Constraint → Bool
kept p codes c = keeps p codes c c.scope []

abbrev pub invariant-loop-k : goal.invariant-loop-k
invariant-loop-k l = (p : Problem) → Lent p l.numbers l.supports l.codes l.moves → (l.k ≤ length p.constraints) ×
    (all (kept p l.codes) (drop l.k p.constraints) ≡ all (kept p l.codes) p.constraints)
