use Rattle.model.specs.Kit.{◌≡◌, List, ℕ, take}
use Rattle.model.specs.{Lists.at, Problem.Problem}
use Rattle.arrays.specs.{Inner.Places.SYMMETRIES, Inner.Pruning.sets_of}
use Rattle.prune.specs.{Inner.Node.MarksRight, Inner.Steps.ArraysHold, Inner.Steps.PrefixHeld, Inner.Steps.LiveSets}
use Rattle.prune.proofs.FilterLoop.{FilteredSoFar}
use Rattle.prune.proofs.filters.Given as goal

abbrev pub invariant-loop-e : goal.invariant-loop-e
invariant-loop-e l =
    (l.g ≡ at l.numbers SYMMETRIES) × ((p : Problem) (supports : List ℕ) → ArraysHold p supports l.tables l.numbers → PrefixHeld p l.initial.work l.k → LiveSets p l.initial.sets →
    MarksRight p (sets_of p l.initial.sets)
    (take l.k l.initial.work) l.initial.work l.k → FilteredSoFar p l.k l.initial.work l.initial.sets l.work l.sets l.e)
