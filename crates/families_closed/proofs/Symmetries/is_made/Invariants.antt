use Rattle.model.specs.Kit.{◌≡◌, false, ℕ, ◌<◌, length}
use Rattle.model.specs.Problem.{Problem, symmetry_at}
use Rattle.families.specs.Families.{makes}
use Rattle.families_closed.specs.Inner.Held.{Held}
use Rattle.families_closed.proofs.Symmetries.is_made.Given as goal

abbrev pub invariant-loop-c : goal.invariant-loop-c
invariant-loop-c l =
    (p : Problem) → Held p l.self.images.now l.self.variables l.self.values → l.self.count ≡ length p.symmetries → l.a < l.self.count → l.b < l.self.count →
    (k : ℕ) → k < l.c → makes p (symmetry_at p l.a) (symmetry_at p l.b) (symmetry_at p k) ≡ false
