use Rattle.model.specs.Kit.{List, ℕ}
use Rattle.model.specs.{Problem.Problem}
use Rattle.model.proofs.Sets.{size}
use Rattle.prune.specs.Inner.Steps.{ArraysHold, Blocked, BeforeFixpoint, OnlyMarks}
use Rattle.prune.proofs.alternate.Given as goal

abbrev pub invariant-loop-old : goal.invariant-loop-old
invariant-loop-old l =
    (p : Problem) (gs : List (List ℕ)) → ArraysHold p l.supports l.tables l.numbers → Blocked p gs l.numbers → BeforeFixpoint p gs l.initial.work l.numbers l.initial.sets l.k 0 0 →
    BeforeFixpoint p gs l.work l.numbers l.sets l.k 0 0
    × OnlyMarks l.initial.work l.work l.k

abbrev pub decreases-loop-old : goal.decreases-loop-old
decreases-loop-old l = size l.sets
