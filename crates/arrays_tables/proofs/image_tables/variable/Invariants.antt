use Rattle.arrays_tables.specs.Inner.Steps.{PairsStored}
use Rattle.arrays_tables.proofs.image_tables.variable.Given as goal

abbrev pub invariant-loop-v : goal.invariant-loop-v
invariant-loop-v l = PairsStored l.images l.m.bits l.from l.v l.initial.tables l.tables l.sets
