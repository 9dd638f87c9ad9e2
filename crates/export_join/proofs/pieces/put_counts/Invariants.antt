use Rattle.model.specs.Kit.{◌≡◌, ◌+◌, ◌*◌, length}
use Rattle.model.specs.{Lists.at, Lists.tabulate, Written.Written}
use Rattle.export_join.specs.Joined.{wides_of}
use Rattle.export_join.proofs.pieces.put_counts.Given as goal

abbrev pub invariant-loop-i : goal.invariant-loop-i
invariant-loop-i l = (length l.out ≡ length l.initial.out) × (l.place ≡ 24 + 8 * l.i) × Written l.initial.out 24 (wides_of (tabulate l.i (at l.counts))) l.out l.place
