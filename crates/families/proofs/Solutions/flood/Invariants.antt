use Rattle.model.specs.Kit.{ℕ, ◌-◌}
use Rattle.model.specs.Problem.{Problem}
use Rattle.families.specs.Inner.Numbered.{FloodingOf}
use Rattle.families.proofs.Solutions.flood.Given as goal

abbrev pub invariant-loop-first : goal.invariant-loop-first
invariant-loop-first l =
    (p : Problem) (starts count : ℕ) → FloodingOf p l.self l.initial.seen l.initial.queue starts count l.head l.tail →
    FloodingOf p l.self l.seen l.queue starts count l.first l.end

abbrev pub decreases-loop-first : goal.decreases-loop-first
decreases-loop-first l = 4096 - l.first
