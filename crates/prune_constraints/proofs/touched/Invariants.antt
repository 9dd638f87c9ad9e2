use Rattle.model.proofs.Members.{Rest, Union}
use Rattle.prune_constraints.proofs.{Unions.Touches}
use Rattle.prune_constraints.proofs.touched.Given as goal

abbrev pub invariant-loop-m : goal.invariant-loop-m
invariant-loop-m l = Rest 64 l.changed l.m × Union (Touches l.numbers) l.changed l.m l.all

abbrev pub decreases-loop-m : goal.decreases-loop-m
decreases-loop-m l = l.m
