use Rattle.model.specs.{Problem.Problem}
use Rattle.families.specs.Inner.Numbered.{Counted}
use Rattle.families.proofs.Turns.{Counting}
use Rattle.families.proofs.families.Given as goal

abbrev pub invariant-loop-i : goal.invariant-loop-i
invariant-loop-i l =
    (p : Problem) → Counted p l.rows l.images l.variables l.symmetries l.solutions →
    Counting p l.rows l.images l.found.keys.now l.found.heads.now l.found.weights.now l.variables l.symmetries l.solutions l.seen l.queue l.count l.tail l.i
