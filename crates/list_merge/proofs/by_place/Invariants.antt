use Rattle.model.specs.Kit.{◌≡◌, ℕ, ◌<◌, get_or}
use Rattle.list_merge.proofs.by_place.Given as goal

abbrev pub invariant-loop-i : goal.invariant-loop-i
invariant-loop-i l = (k : ℕ) → k < l.i → get_or l.order k 0 ≡ k
