use Rattle.model.specs.Kit.{◌≡◌, ◌≤◌, length}
use Rattle.examples_filter.proofs.read_sets.Given as goal

abbrev pub invariant-loop-count : goal.invariant-loop-count
invariant-loop-count l = (l.at ≤ length l.line) × (length l.sets ≡ length l.initial.sets)
