-- A block of neighbouring variables that may be put in any order (paper 02, #111): the orderings of five, the symmetries that a block adds, and its questions.
use Rattle.std.specs.Prelude.{Bool, true, false, List, [], ◌∷◌, ◌++◌, map, ℕ, zero, suc, ◌+◌, ◌-◌, ◌*◌, ◌/◌, ◌%◌, length, get_or, replicate, leb, ltb}
use Rattle.model.specs.Problem.{Problem, pair, is_pair, assignments, with_symmetries}
use Rattle.model.specs.{Lists.keep, Lists.below, Lists.at, Lists.both, ValueSets.full_mask, Verdict.Verdict, Verdict.accepted, Verdict.refused, Verdict.ask, Sheet.distinct, Sheet.symmetries_verdict}

-- ---- orderings
-- the orderings of 0 to 4, in reading order: five numbers below five, no two of them equal
unfoldable pub orderings : List (List ℕ)
orderings = keep distinct (assignments (replicate 5 (full_mask 5)))

-- row number row: e(0) to e(4)
unfoldable pub ordering : ℕ → List ℕ
ordering row = get_or orderings row []

unfoldable pub factorial : ℕ → ℕ
factorial zero = 1
factorial (suc m) = suc m * factorial m

-- ---- tables
-- first g, then h, as one table; of orderings too
unfoldable pub composed : List ℕ → List ℕ → List ℕ
composed g h = map (at h) g

-- the table that takes each pair (x, v) to (f x, v); other numbers stay put
unfoldable pub variable_table : Problem → (ℕ → ℕ) → List ℕ
variable_table p f = map (λ q. elim (is_pair p q) [ true ↦ pair p (f (q / p.values)) (q % p.values) | false ↦ q ]) (below (p.variables * p.values))

-- x is one of m neighbouring variables, of which first is the first
unfoldable pub in_block : ℕ → ℕ → ℕ → Bool
in_block first m x = both (leb first x) (ltb x (first + m))

-- where the ordering e takes a variable: first + i, for i below m, to first + e(5 - m + i) - (5 - m); the others stay put
unfoldable pub image_of : ℕ → ℕ → List ℕ → ℕ → ℕ
image_of first m e x = elim (in_block first m x) [ true ↦ first + at e (5 - m + (x - first)) - (5 - m) | false ↦ x ]

-- the symmetry of one row
unfoldable pub ordering_table : Problem → ℕ → ℕ → ℕ → List ℕ
ordering_table p first m row = variable_table p (image_of first m (ordering row))

-- a block of m uses the first m! rows
unfoldable pub block_tables : Problem → ℕ → ℕ → List (List ℕ)
block_tables p first m = map (ordering_table p first m) (below (factorial m))

-- the problem with the block's symmetries after its own
abbrev pub with_block : ℕ → ℕ → Problem → Problem
with_block first m p = with_symmetries p (p.symmetries ++ block_tables p first m)

-- ---- the questions
-- the block is 2 to 5 neighbouring variables of the problem
unfoldable pub is_block_at : Problem → ℕ → ℕ → Bool
is_block_at p first m = both (both (leb 2 m) (leb m 5)) (leb (first + m) p.variables)

-- 36; then 15 and 16 for each row, items counting on from the problem's own symmetries
unfoldable pub block_verdict : Problem → ℕ → ℕ → Verdict
block_verdict p first m = ask (is_block_at p first m) 36 0 (symmetries_verdict p (length p.symmetries) (block_tables p first m))

-- ---- as it is lent: no bytes for none, or two: its first variable and how many
-- the symmetries that it adds
unfoldable pub tables_lent : Problem → List ℕ → List (List ℕ)
tables_lent p [] = []
tables_lent p (first ∷ []) = []
tables_lent p (first ∷ m ∷ []) = block_tables p first m
tables_lent p (first ∷ m ∷ x ∷ more) = []

-- 36 where the bytes are neither none nor two that name a block; then the block's 15 and 16
unfoldable pub block_lent : Problem → List ℕ → Verdict
block_lent p [] = accepted
block_lent p (first ∷ []) = refused 36 0
block_lent p (first ∷ m ∷ []) = block_verdict p first m
block_lent p (first ∷ m ∷ x ∷ more) = refused 36 0

-- its variables
unfoldable pub in_lent : List ℕ → ℕ → Bool
in_lent [] x = false
in_lent (first ∷ []) x = false
in_lent (first ∷ m ∷ []) x = in_block first m x
in_lent (first ∷ m ∷ y ∷ more) x = false

-- the problem with the symmetries of a block as it is lent after its own
abbrev pub with_lent : List ℕ → Problem → Problem
with_lent block p = with_symmetries p (p.symmetries ++ tables_lent p block)
