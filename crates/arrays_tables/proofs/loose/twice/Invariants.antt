use Rattle.arrays_tables.proofs.{LooseVariables.RefusedSoFar}
use Rattle.arrays_tables.proofs.loose.twice.Given as goal

abbrev pub invariant-loop-v : goal.invariant-loop-v
invariant-loop-v l = RefusedSoFar l.tables l.m.bits l.from l.v l.once.bits l.all.bits
