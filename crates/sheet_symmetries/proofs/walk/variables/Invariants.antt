use Rattle.model.specs.Kit.{Bool, List, ℕ, ◌≡◌, ◌-◌, ◌≤◌}
use Rattle.model.specs.{Lists.all, Lists.below, Lists.up_from, Lists.at, ValueSets.members, Problem.Problem}
use Rattle.sheet_table.specs.Inner.Forbidden.{Lent, doublings}
use Rattle.sheet_symmetries.proofs.walk.variables.Given as goal

abbrev pub kept : Problem → List ℕ → ℕ → Bool
kept p codes x = doublings p codes x (members (at p.initial x))

abbrev pub invariant-loop-x : goal.invariant-loop-x
invariant-loop-x l = (p : Problem) → Lent p l.numbers l.supports l.codes l.moves → (l.x ≤ p.variables) ×
    (all (kept p l.codes) (up_from l.x (p.variables - l.x)) ≡ all (kept p l.codes) (below p.variables))
