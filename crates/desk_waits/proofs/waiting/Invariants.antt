use Rattle.model.specs.Kit.{◌^◌, ◌<◌}
use Rattle.model.specs.{Inner.Filling.Gathered}
use Rattle.desk.specs.{Queue.waits, Inner.Layout.slot_of}
use Rattle.desk_waits.proofs.waiting.Given as goal

abbrev pub invariant-loop-k : goal.invariant-loop-k
invariant-loop-k l = (l.set < 2 ^ 16) × Gathered (λ j. waits (slot_of l.queue j)) l.k l.set
