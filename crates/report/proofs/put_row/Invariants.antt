use Rattle.model.specs.Kit.{◌≡◌, length, take}
use Rattle.model.specs.{Written.Written}
use Rattle.report.specs.Inner.Text.{fields}
use Rattle.report.proofs.put_row.Given as goal

abbrev pub invariant-loop-value : goal.invariant-loop-value
invariant-loop-value l = (length l.out ≡ length l.initial.out) × Written l.initial.out l.at (fields (take l.value-index l.row)) l.out l.next
