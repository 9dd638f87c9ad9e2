use Rattle.model.specs.Kit.{◌≤◌}
use Rattle.sheet_small.proofs.{Walk.Came}
use Rattle.sheet_small.proofs.find.Given as goal

abbrev pub invariant-loop-n : goal.invariant-loop-n
invariant-loop-n l = (l.n ≤ 3600) × (l.seen ≤ l.k) × Came l.seen l.n
