use Rattle.model.specs.Kit.{◌≡◌, true, ℕ, ◌/◌, ◌%◌, ◌<◌, length}
use Rattle.model.specs.Problem.{Problem}
use Rattle.families_closed.specs.{Open.made, Inner.Held.Held}
use Rattle.families_closed.proofs.Symmetries.first_missing.Given as goal

abbrev pub invariant-loop-k : goal.invariant-loop-k
invariant-loop-k l =
    (p : Problem) → Held p l.self.images.now l.self.variables l.self.values → l.self.count ≡ length p.symmetries → (j : ℕ) → j < l.k → made p (j / l.self.count) (j % l.self.count) ≡ true
