use Rattle.model.specs.Kit.{◌<◌}
use Rattle.examples_lines.proofs.digits.Given as goal

abbrev pub invariant-loop-at : goal.invariant-loop-at
invariant-loop-at l = l.value < 65536
