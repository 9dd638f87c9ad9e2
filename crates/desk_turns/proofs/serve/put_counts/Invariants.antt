use Rattle.model.specs.Kit.{◌≡◌, ◌+◌, length, take}
use Rattle.model.specs.{Written.placed}
use Rattle.run_cut.specs.Parts.{added}
use Rattle.desk.specs.{Inner.Places.COUNTS, Inner.Layout.count_bytes}
use Rattle.desk_turns.proofs.serve.put_counts.Given as goal

abbrev pub invariant-loop-x : goal.invariant-loop-x
invariant-loop-x l = (length l.queue ≡ length l.initial.queue) × (l.queue ≡ placed l.initial.queue (l.p + COUNTS) (count_bytes (take l.x (added l.before l.more))))
