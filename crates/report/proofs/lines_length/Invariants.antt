use Rattle.model.specs.Kit.{◌≡◌, ◌+◌, ◌*◌, ◌≤◌, length, take}
use Rattle.report.specs.Inner.Text.{fields}
use Rattle.report.proofs.lines_length.Given as goal

abbrev pub invariant-loop-value : goal.invariant-loop-value
invariant-loop-value l = (l.length ≡ 5 * l.plans + length (fields (take l.value-index l.list))) × (l.length ≤ 5 * l.plans + 4 * l.value-index)
