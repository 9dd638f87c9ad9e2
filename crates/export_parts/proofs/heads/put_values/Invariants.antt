use Rattle.model.specs.Kit.{◌≡◌, ◌+◌, length, take}
use Rattle.model.specs.{Lists.at, Lists.tabulate, Written.Written}
use Rattle.export_parts.proofs.heads.put_values.Given as goal

abbrev pub invariant-loop-i : goal.invariant-loop-i
invariant-loop-i l = (length l.out ≡ length l.initial.out) × Written l.initial.out l.start (tabulate l.i (at (take l.n l.path))) l.out (l.start + l.i)
