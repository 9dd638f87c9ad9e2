use Rattle.model.specs.Kit.{◌≡◌, ◌≤◌, length}
use Rattle.examples_filter.proofs.read_bytes.Given as goal

abbrev pub invariant-loop-count : goal.invariant-loop-count
invariant-loop-count l = (l.at ≤ length l.line) × (length l.bytes ≡ length l.initial.bytes)
