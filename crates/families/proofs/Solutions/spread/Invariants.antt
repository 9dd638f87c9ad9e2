use Rattle.model.specs.Kit.{ℕ, ◌≤◌}
use Rattle.model.specs.{Problem.Problem}
use Rattle.families.specs.Inner.Numbered.{SpreadingOf}
use Rattle.families.proofs.Turns.{Turning}
use Rattle.families.proofs.Solutions.spread.Given as goal

abbrev pub invariant-loop-k : goal.invariant-loop-k
invariant-loop-k l =
    (l.k ≤ l.self.symmetries) × ((p : Problem) (starts count : ℕ) → SpreadingOf p l.self l.initial.seen l.initial.queue starts count l.head l.tail →
    Turning p l.self.rows.now l.self.images.now l.self.keys.now l.self.heads.now l.self.weights.now l.self.variables l.self.symmetries l.i
    l.seen l.queue starts count l.head l.k l.end)
