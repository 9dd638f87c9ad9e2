-- Where a queue's bytes have what: the constants of src/lib.rt. Their number, the plans of a list and the nodes of a turn stand in specs/Queue.
use Rattle.std.specs.Prelude.{ℕ}

-- ---- in a slot, low bytes first; its first byte says whether it is taken (0: free)
-- the sheet's length, two bytes
abbrev pub LENGTH : ℕ
LENGTH = 1

-- the limit, four bytes
abbrev pub LIMIT : ℕ
LIMIT = 3

-- how the run stands (0 running, 1 finished, 2 spent, 3 full)
abbrev pub STANDING : ℕ
STANDING = 7

-- its nodes, four bytes
abbrev pub NODES : ℕ
NODES = 8

-- its plans, two bytes
abbrev pub PLANS : ℕ
PLANS = 12

-- the length of the last node, and its values, twelve bytes
abbrev pub DEPTH : ℕ
DEPTH = 14

abbrev pub LAST : ℕ
LAST = 15

-- the nodes by variable, twelve counts of four bytes
abbrev pub COUNTS : ℕ
COUNTS = 27

-- the sheet, 55,656 bytes at the most
abbrev pub SHEET : ℕ
SHEET = 75

abbrev pub SHEET_BYTES : ℕ
SHEET_BYTES = 55656

-- the list, 4,096 plans of twelve bytes at the most
abbrev pub LIST : ℕ
LIST = 55731

abbrev pub LIST_BYTES : ℕ
LIST_BYTES = 49152

-- ---- eight slots, and the byte that says where the next turn begins to look
abbrev pub SLOT : ℕ
SLOT = 104883

abbrev pub NEXT : ℕ
NEXT = 839064
