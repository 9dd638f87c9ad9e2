use Rattle.model.specs.Inner.Filling.{Filled}
use Rattle.arrays_tables.specs.Inner.Steps.{Word}
use Rattle.arrays_tables.proofs.words.words.Given as goal

abbrev pub invariant-loop-n : goal.invariant-loop-n
invariant-loop-n l = Filled (λ i. i) (Word l.supports l.k) l.n l.initial.made l.made
