use Rattle.model.specs.Kit.{◌≡◌, true, ℕ, ◌<◌, length}
use Rattle.run_join.specs.Inner.Inner.{marked}
use Rattle.run_join.proofs.marks.mark_all.Given as goal

abbrev pub invariant-loop-k : goal.invariant-loop-k
invariant-loop-k l = (length l.marks ≡ 1024) × ((j : ℕ) → j < l.k → marked l.marks j ≡ true)
