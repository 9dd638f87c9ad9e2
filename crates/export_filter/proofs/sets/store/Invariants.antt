use Rattle.model.specs.Kit.{◌≡◌, ◌*◌, length, take}
use Rattle.model.specs.Written.{Written}
use Rattle.export_filter.specs.Filter.{bytes_of}
use Rattle.export_filter.proofs.sets.store.Given as goal

abbrev pub invariant-loop-i : goal.invariant-loop-i
invariant-loop-i l = (length l.sets ≡ length l.initial.sets) × (l.at ≡ 2 * l.i) × Written l.initial.sets 0 (bytes_of (take l.i l.words)) l.sets l.at
