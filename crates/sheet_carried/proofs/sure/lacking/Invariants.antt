use Rattle.model.specs.Kit.{◌^◌, ◌≤◌, ◌<◌}
use Rattle.sheet_table.specs.Inner.Forbidden.{Lacking}
use Rattle.sheet_carried.proofs.sure.lacking.Given as goal

abbrev pub invariant-loop-v : goal.invariant-loop-v
invariant-loop-v l = (l.v ≤ 16) × (l.set.bits < 2 ^ 16) × Lacking l.supports l.base l.step l.w l.v l.set.bits
