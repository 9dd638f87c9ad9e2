use Rattle.model.specs.Kit.{◌≡◌, ◌+◌, ◌*◌, ◌-◌, ◌≤◌, length, take}
use Rattle.model.specs.{Written.Written}
use Rattle.export_counts.specs.Tallied.{numbers_of}
use Rattle.export_counts.proofs.numbers.Given as goal

abbrev pub invariant-loop-i : goal.invariant-loop-i
invariant-loop-i l = (length l.out ≡ length l.initial.out) × (l.at ≡ l.start + 4 * l.i) × Written l.initial.out l.start (numbers_of (take l.i l.counts)) l.out l.at
