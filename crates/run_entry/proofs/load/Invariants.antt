use Rattle.model.specs.Kit.{◌*◌, ◌≤◌, ◌≡◌}
use Rattle.run_entry.specs.Inner.Entry.{Loaded}
use Rattle.run_entry.proofs.load.Given as goal

abbrev pub invariant-loop-i : goal.invariant-loop-i
invariant-loop-i l = (l.k ≤ l.i) × (l.i ≤ l.n) × (l.from ≡ l.row * l.n) × Loaded l.numbers l.list l.k l.i (l.row * l.n) l.initial.work l.work
