use Rattle.model.specs.Kit.{ℕ, drop}
use Rattle.model.specs.{Nogood.entries}
use Rattle.filter.specs.{Inner.Lists.Ready, Inner.Scan.Passed}
use Rattle.filter.proofs.pass.Given as goal

abbrev pub invariant-loop-i : goal.invariant-loop-i
invariant-loop-i l = (n : ℕ) → Ready n l.initial.sets l.index l.equal l.not_equal l.start →
    Passed n l.initial.sets (drop l.start (entries l.index l.equal l.not_equal)) l.sets (drop l.i (entries l.index l.equal l.not_equal))
