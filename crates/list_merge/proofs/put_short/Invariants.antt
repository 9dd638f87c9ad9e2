use Rattle.model.specs.Kit.{◌≡◌, length}
use lib.Seq.{paste}
use Rattle.list_merge.proofs.put_short.Given as goal

abbrev pub invariant-loop-i : goal.invariant-loop-i
invariant-loop-i l = (l.out ≡ paste l.initial.out l.at l.row l.i) × (length l.out ≡ length l.initial.out)
