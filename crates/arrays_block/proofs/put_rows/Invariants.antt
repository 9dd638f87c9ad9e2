use Rattle.model.specs.Kit.{◌+◌, ◌≤◌, T}
use Rattle.model.specs.Problem.{Problem}
use Rattle.block.specs.Block.{is_block_at}
use Rattle.arrays_block.specs.Inner.Asked.{Imaged}
use Rattle.arrays_block.proofs.Putting.{PutTo}
use Rattle.arrays_block.proofs.put_rows.Given as goal

abbrev pub invariant-loop-row : goal.invariant-loop-row
invariant-loop-row l = (l.row ≤ l.count) × ((p : Problem) → Imaged p l.numbers l.initial.images → T (is_block_at p l.first l.m) → PutTo p l.first l.m (l.g + l.row) l.initial.images l.images)
