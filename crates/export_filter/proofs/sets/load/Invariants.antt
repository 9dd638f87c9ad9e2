use Rattle.model.specs.Kit.{◌≡◌, ℕ, ◌+◌, ◌*◌, ◌<◌, length, get_or}
use Rattle.export_filter.proofs.sets.load.Given as goal

abbrev pub invariant-loop-i : goal.invariant-loop-i
invariant-loop-i l = (length l.words ≡ length l.initial.words) × ((k : ℕ) → k < l.i → get_or l.words k 0 ≡ get_or l.sets (2 * k) 0 + 256 * get_or l.sets (2 * k + 1) 0)
