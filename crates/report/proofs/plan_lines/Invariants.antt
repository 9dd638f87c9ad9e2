use Rattle.model.specs.Kit.{◌≡◌, length}
use Rattle.model.specs.{Written.Written}
use Rattle.report.specs.Inner.Text.{plan_lines}
use Rattle.report.proofs.plan_lines.Given as goal

abbrev pub invariant-loop-i : goal.invariant-loop-i
invariant-loop-i l = (length l.out ≡ length l.initial.out) × Written l.initial.out 0 (plan_lines l.n l.i l.list) l.out l.next
