use Rattle.model.specs.Kit.{◌≡◌, ℕ, ◌<◌, length}
use Rattle.model.specs.{Lists.at, Problem.Problem, Problem.symmetry_at}
use Rattle.families_closed.specs.Inner.Held.{Held}
use Rattle.families_closed.proofs.Symmetries.moves_none.Given as goal

abbrev pub invariant-loop-q : goal.invariant-loop-q
invariant-loop-q l =
    (p : Problem) → Held p l.self.images.now l.self.variables l.self.values → l.a < length p.symmetries → l.b < length p.symmetries →
    (k : ℕ) → k < l.q → at (symmetry_at p l.b) (at (symmetry_at p l.a) k) ≡ k
