use Rattle.model.specs.Kit.{ℕ, ◌≤◌, ◌<◌}
use Rattle.model.specs.Lists.{at}
use Rattle.run_entry.specs.Inner.Entry.{FigureIn}
use Rattle.run_entry.proofs.put_figures.Given as goal

abbrev pub invariant-loop-x : goal.invariant-loop-x
invariant-loop-x l = (l.x ≤ 12) × ((j : ℕ) → j < 12 → at l.old j ≤ at l.new j) × FigureIn l.stack l.old l.new l.k l.s l.x l.initial.work l.work
