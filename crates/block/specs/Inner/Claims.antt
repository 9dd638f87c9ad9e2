-- What else holds of a block's orderings (paper 02, #111 and #112): which of its questions are enough, what they say at a prefix, and that they are closed. The proofs
-- are in proofs/Claimed.antt.
use Rattle.std.specs.Prelude.{◌≡◌, Bool, false, ◌↔◌, List, [], ℕ, ◌*◌, ◌≤◌, ◌<◌, length, T}
use Rattle.model.specs.Kit.{Memᴰ}
use Rattle.model.specs.{Lists.at, ValueSets.has, ValueSets.any_empty, Problem.Problem, Problem.respects, Verdict.accepted, Sheet.permutes_pairs, Search.is_plan, Claims.Consistent}
use Rattle.model.specs.Inner.WellFormed.{WellFormed}
use Rattle.order.specs.{Order.Ordering, Reordered.reordered}
use Rattle.block.specs.Block.{factorial, ordering_table, in_block, with_block, is_block_at, block_verdict}

-- ---- the questions
-- the k-th trade of neighbours, row k!, passes 15 and 16
abbrev pub TradePasses : Problem → ℕ → ℕ → ℕ → Type 0
TradePasses p first m k = T (permutes_pairs p (ordering_table p first m (factorial k))) × T (respects p (ordering_table p first m (factorial k)))

-- the m - 1 trades of neighbours (of rows 1, 2, 6, 24 the first m - 1) are enough to ask: where they pass, every row does
abbrev pub TradesEnough : Type 0
TradesEnough = (p : Problem) (first m : ℕ) → WellFormed p → T (is_block_at p first m) → ((k : ℕ) → 1 ≤ k → k < m → TradePasses p first m k) → block_verdict p first m ≡ accepted

-- no block variable has a value below that of a block variable of the prefix that is settled before it
abbrev pub Ascends : (ℕ → Bool) → List ℕ → List ℕ → Type 0
Ascends block prefix ds = (x y v : ℕ) → T (block x) → T (block y) → x < y → x < length prefix → T (has (at ds y) v) → at prefix x ≤ v

-- ---- the sets at a prefix, the variables settled in any order
-- sets of which none is empty: consistent with the block's orderings is consistent without them, and ascending along the block
abbrev pub SetsAscend : Type 0
SetsAscend =
    (p : Problem) (order : List ℕ) (first m : ℕ) (prefix ds : List ℕ) → WellFormed p → Ordering p.variables order → block_verdict p first m ≡ accepted → any_empty ds ≡ false →
    Consistent (λ x. x) (reordered order (with_block first m p)) prefix ds ↔ (Consistent (λ x. x) (reordered order p) prefix ds × Ascends (λ i. in_block first m (at order i)) prefix ds)

-- the plans are those of the run without the block that ascend along it
abbrev pub PlansAscend : Type 0
PlansAscend =
    (p : Problem) (order : List ℕ) (first m : ℕ) (a : List ℕ) → WellFormed p → Ordering p.variables order → block_verdict p first m ≡ accepted →
    T (is_plan (reordered order (with_block first m p)) a)
    ↔ (T (is_plan (reordered order p) a) × ((x y : ℕ) → T (in_block first m (at order x)) → T (in_block first m (at order y)) → x < y → y < p.variables → at a x ≤ at a y))

-- ---- a block alone (#112)
-- two of its orderings, one after the other, make one of them
abbrev pub AloneClosed : Type 0
AloneClosed =
    (p : Problem) (first m : ℕ) → WellFormed p → p.symmetries ≡ [] → block_verdict p first m ≡ accepted →
    (f g : List ℕ) → Memᴰ f (with_block first m p).symmetries → Memᴰ g (with_block first m p).symmetries →
    (h : List ℕ) × Memᴰ h (with_block first m p).symmetries × ((q : ℕ) → q < p.variables * p.values → at g (at f q) ≡ at h q)
