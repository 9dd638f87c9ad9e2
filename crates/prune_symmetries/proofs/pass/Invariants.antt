use Rattle.model.specs.Kit.{◌≡◌, length}
use Rattle.model.specs.{Problem.Problem}
use Rattle.prune_symmetries.specs.Inner.Levels.{Ready}
use Rattle.prune_symmetries.proofs.Turns.{Passing}
use Rattle.prune_symmetries.proofs.pass.Given as goal

abbrev pub invariant-loop-j : goal.invariant-loop-j
invariant-loop-j l = (length l.sets ≡ length l.initial.sets) × ((p : Problem) → Ready p l.initial.sets l.work l.tables l.e l.k l.start → Passing p l.initial.sets l.work l.e l.k l.start l.sets l.j)
