use Rattle.model.specs.Kit.{◌≡◌, ◌≤◌, length}
use Rattle.run_memo.proofs.{Loops.GrownTo}
use Rattle.run_memo.proofs.grown.Given as goal

abbrev pub invariant-loop-x : goal.invariant-loop-x
invariant-loop-x l = (l.x ≤ 12) × (length l.t.counts ≡ 12) × GrownTo l.t.counts l.work l.s l.x l.counts
