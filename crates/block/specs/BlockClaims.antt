-- What paper 02 asks of the table of a block's orderings (#111). The proofs are in proofs/Claimed.antt.
use Rattle.std.specs.Prelude.{◌≡◌, Bool, ◌↔◌, List, [], ◌∷◌, ℕ, zero, suc, ◌-◌, ◌≤◌, ◌<◌, length, take, drop, T, eqb, ltb}
use Rattle.model.specs.Kit.{Memᴰ}
use Rattle.model.specs.{Lists.all, Lists.both, Lists.at, Lists.flat, Lists.rows_ascend, Sheet.distinct}
use Rattle.order.specs.Order.{Ordering}
use Rattle.block.specs.Block.{orderings, ordering, factorial}

-- 120 rows, ascending; each is an ordering, and none is absent
abbrev pub RowsAll : Type 0
RowsAll = (length orderings ≡ 120) × T (rows_ascend orderings) × ((e : List ℕ) → Memᴰ e orderings ↔ Ordering 5 e)

-- any 600 numbers as 120 rows of five, and the one test over the whole table: each row is five numbers below five, no two of them equal, and the rows ascend
unfoldable pub fives : ℕ → List ℕ → List (List ℕ)
fives zero l = []
fives (suc k) l = take 5 l ∷ fives k (drop 5 l)

unfoldable pub is_ordering : List ℕ → Bool
is_ordering e = both (eqb (length e) 5) (both (all (λ v. ltb v 5) e) (distinct e))

unfoldable pub is_table : List ℕ → Bool
is_table l = both (all is_ordering (fives 120 l)) (rows_ascend (fives 120 l))

-- numbers that pass it: each row is an ordering, the rows ascend, and they are all orderings; `block::rows` hands out 600 that do, which are `flat orderings`
pub record TableRows (l : List ℕ) : Type 0 where
  pub each : (e : List ℕ) → Memᴰ e (fives 120 l) → Ordering 5 e
  pub ascend : T (rows_ascend (fives 120 l))
  pub all_there : (e : List ℕ) → Ordering 5 e → Memᴰ e (fives 120 l)
  pub rows : fives 120 l ≡ orderings
  pub numbers : length l ≡ 600 → l ≡ flat orderings

abbrev pub TableRowsClaim : Type 0
TableRowsClaim = (l : List ℕ) → T (is_table l) → TableRows l

-- the orderings one after another are such numbers
abbrev pub TablePasses : Type 0
TablePasses = T (is_table (flat orderings))

-- the first m! rows are those that move only the last m entries
abbrev pub FirstRows : Type 0
FirstRows = (m row : ℕ) → 2 ≤ m → m ≤ 5 → row < 120 → (row < factorial m) ↔ ((i : ℕ) → i < 5 - m → at (ordering row) i ≡ i)
