-- Plans stored by window (paper 02, #103): the store of some rows, the rows of a store, and the questions put to both. A variable is the
-- paper's place, a row a plan.
use Rattle.std.specs.Prelude.{Bool, List, ◌++◌, map, ℕ, ◌+◌, ◌*◌, ◌/◌, ◌%◌, length, drop, leb, ltb, eqb}
use Rattle.model.specs.{Lists.both, Lists.all, Lists.flat, Lists.below, Lists.at, Bytes.two_bytes, Run.listed_plans, Sheet.«word», Room.rows_in, Verdict.Verdict, Verdict.accepted, Verdict.ask}

-- ---- rows and columns
-- the value at x of every row
unfoldable pub column : List (List ℕ) → ℕ → List ℕ
column rows x = map (λ r. at r x) rows

-- the columns of rows of n values: the first value of every row, the second of every row, and so on
unfoldable pub transposed : ℕ → List (List ℕ) → List (List ℕ)
transposed n rows = map (column rows) (below n)

-- ---- rows to columns
-- the header: variables, plans, the offset of what follows, total length
unfoldable pub heading : ℕ → ℕ → List ℕ
heading variables plans = two_bytes variables ++ two_bytes plans ++ two_bytes 8 ++ two_bytes (8 + variables * plans)

-- the store of rows of n bytes
unfoldable pub columns_of : ℕ → List ℕ → List ℕ
columns_of n b = heading n (length b / n) ++ flat (transposed n (rows_in n b))

-- ---- columns to rows
-- the two numbers of a store, and the bytes after its header
abbrev pub variables : List ℕ → ℕ
variables s = «word» s 0

abbrev pub plans : List ℕ → ℕ
plans s = «word» s 2

abbrev pub body : List ℕ → List ℕ
body s = drop 8 s

-- the columns of a store: one for each variable, with a value of every plan
unfoldable pub columns_in : List ℕ → List (List ℕ)
columns_in s = listed_plans (plans s) (variables s) (body s)

-- the rows of a store, one after another
unfoldable pub rows_of : List ℕ → List ℕ
rows_of s = flat (transposed (plans s) (columns_in s))

-- ---- the questions
-- 20, of n and some bytes: n is 1 to 12, the bytes are whole rows, at most 4,096
unfoldable pub whole_rows : ℕ → List ℕ → Bool
whole_rows n b = both (both (leb 1 n) (leb n 12)) (both (eqb (length b % n) 0) (leb (length b / n) 4096))

-- 21: each value is below 16
unfoldable pub small_values : List ℕ → Bool
small_values b = all (λ v. ltb v 16) b

-- 20 and 21 of rows of n bytes, then 22: the room holds as many bytes as are to be written
unfoldable pub bytes_verdict : ℕ → List ℕ → ℕ → ℕ → Verdict
bytes_verdict n b size room =
    ask (whole_rows n b) 20 0
    (ask (small_values b) 21 0
    (ask (leb size room) 22 0 accepted))

-- of rows of n bytes, and the room for their store
unfoldable pub columns_verdict : ℕ → List ℕ → ℕ → Verdict
columns_verdict n b room = bytes_verdict n b (8 + length b) room

-- 23: 8 bytes at least, the offset is 8, and the lent length is both the total and 8 + places × plans
unfoldable pub is_store : List ℕ → Bool
is_store s = both (leb 8 (length s)) (both (eqb («word» s 4) 8) (both (eqb (length s) («word» s 6)) (eqb (length s) (8 + variables s * plans s))))

-- of a store, and the room for its rows
unfoldable pub rows_verdict : List ℕ → ℕ → Verdict
rows_verdict s room = ask (is_store s) 23 0 (bytes_verdict (variables s) (body s) (length (body s)) room)
