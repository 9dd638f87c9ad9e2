use Rattle.model.specs.Kit.{◌≡◌, ℕ, ◌≤◌, ◌<◌, T}
use Rattle.model.specs.Problem.{Problem}
use Rattle.block.specs.{Block.factorial, Block.is_block_at, Inner.Claims.TradePasses}
use Rattle.arrays_block.specs.Inner.Asked.{Held}
use Rattle.arrays_block.proofs.trades.Given as goal

abbrev pub invariant-loop-k : goal.invariant-loop-k
invariant-loop-k l = (1 ≤ l.k) × (l.row ≡ factorial l.k) × ((p : Problem) → Held p l.numbers l.supports → T (is_block_at p l.first l.m) → (l.k ≤ l.m) ×
    ((j : ℕ) → 1 ≤ j → j < l.k → TradePasses p l.first l.m j))
