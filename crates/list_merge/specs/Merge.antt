-- One list from two (paper 02, #106): the rows of either list, ascending, each once, and the questions put to the two lists.
-- Rows are compared in the settling order of the lent pairs (#108); without pairs that is by variable.
use Rattle.std.specs.Prelude.{Bool, true, false, not, List, [], ◌∷◌, map, ℕ, ◌%◌, length, take, leb, eqb}
use Rattle.model.specs.{Lists.choose, Lists.both, Lists.either, Lists.flat, Lists.same, Lists.rows_ascend, Room.rows_in, Verdict.Verdict, Verdict.accepted, Verdict.ask}
use Rattle.order.specs.{Order.settling_order, Order.order_verdict, Reordered.read, Reordered.earlier_by}

-- the rows, read in the order, ascend strictly
unfoldable pub ascends : List ℕ → List (List ℕ) → Bool
ascends order rows = rows_ascend (map (read order) rows)

-- ---- the union
-- a row put where it belongs, unless it is there already
unfoldable pub insert : List ℕ → List ℕ → List (List ℕ) → List (List ℕ)
insert order r [] = r ∷ []
insert order r (s ∷ rows) = elim (same r s) [ true ↦ s ∷ rows | false ↦ elim (earlier_by order r s) [ true ↦ r ∷ s ∷ rows | false ↦ s ∷ insert order r rows ] ]

-- all rows of the second list put into the first
unfoldable pub union : List ℕ → List (List ℕ) → List (List ℕ) → List (List ℕ)
union order rows [] = rows
union order rows (r ∷ others) = insert order r (union order rows others)

-- the bytes of the union of two lists of rows of n
unfoldable pub merged_by : ℕ → List ℕ → List ℕ → List ℕ → List ℕ
merged_by n order a b = flat (union order (rows_in n a) (rows_in n b))

unfoldable pub merged : ℕ → List ℕ → List ℕ → List ℕ → List ℕ
merged n pairs a b = merged_by n (settling_order n pairs) a b

-- ---- the next row: a part of one of the two lists, not a copy
-- it is the first list's: the second has none left, or the first has one and the second's does not come before it; so it is the first's where both are equal
unfoldable pub from_first : ℕ → List ℕ → List ℕ → List ℕ → Bool
from_first n order a b = either (eqb (length b) 0) (both (not (eqb (length a) 0)) (not (earlier_by order (take n b) (take n a))))

-- the front of that list; at the end of both the first's empty rest
unfoldable pub next_row : ℕ → List ℕ → List ℕ → List ℕ → List ℕ
next_row n order a b = take n (choose (from_first n order a b) a b)

-- ---- the questions
-- 24: n is 1 to 12 and both lists are whole rows
unfoldable pub whole_lists : ℕ → List ℕ → List ℕ → Bool
whole_lists n a b = both (both (leb 1 n) (leb n 12)) (both (eqb (length a % n) 0) (eqb (length b % n) 0))

-- 25 and 26: each list ascends in the order; 27: the merged list fits the room
unfoldable pub ordered_verdict : ℕ → List ℕ → List ℕ → List ℕ → ℕ → Verdict
ordered_verdict n order a b room =
    ask (ascends order (rows_in n a)) 25 0
    (ask (ascends order (rows_in n b)) 26 0
    (ask (leb (length (merged_by n order a b)) room) 27 0 accepted))

-- 24, then 28 to 30 for the pairs, then 25 to 27
unfoldable pub merge_verdict : ℕ → List ℕ → List ℕ → List ℕ → ℕ → Verdict
merge_verdict n pairs a b room = ask (whole_lists n a b) 24 0 (order_verdict n pairs (ordered_verdict n (settling_order n pairs) a b room))
