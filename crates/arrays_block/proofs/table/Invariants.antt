use Rattle.model.specs.Kit.{◌*◌, ◌≤◌}
use Rattle.model.specs.Problem.{Problem}
use Rattle.arrays_block.specs.Inner.Asked.{BlockRow}
use Rattle.arrays_block.proofs.{Filling.FilledTo}
use Rattle.arrays_block.proofs.table.Given as goal

abbrev pub invariant-loop-q : goal.invariant-loop-q
invariant-loop-q l = (p : Problem) → BlockRow p l.rows l.row l.first l.m l.numbers → (l.q ≤ p.variables * p.values) × FilledTo p l.first l.m l.row l.bytes l.q
