use Rattle.model.specs.Kit.{◌≤◌}
use Rattle.model.specs.Problem.{Problem}
use Rattle.arrays_block.specs.Inner.Asked.{BlockRow}
use Rattle.arrays_block.proofs.{Putting.RowTo}
use Rattle.arrays_block.proofs.put_row.Given as goal

abbrev pub invariant-loop-q : goal.invariant-loop-q
invariant-loop-q l = (l.q ≤ l.size) × ((p : Problem) → (b : BlockRow p l.rows l.row l.first l.m l.numbers) → RowTo p l.rows l.row l.first l.m l.numbers b l.base l.q l.initial.images l.images)
