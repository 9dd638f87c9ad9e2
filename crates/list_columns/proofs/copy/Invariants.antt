use Rattle.model.specs.Kit.{◌≡◌, length}
use Rattle.list_columns.specs.Inner.Steps.{Copied}
use Rattle.list_columns.proofs.copy.Given as goal

abbrev pub invariant-loop-i : goal.invariant-loop-i
invariant-loop-i l = (length l.out ≡ length l.initial.out) × Copied l.initial.out l.at l.step l.cells l.from l.stride l.i l.out
