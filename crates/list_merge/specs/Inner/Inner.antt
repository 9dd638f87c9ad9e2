-- What the functions of the crate say to each other.
use Rattle.std.specs.Prelude.{◌≡◌, Bool, true, false, not, List, ℕ, ◌+◌, ◌*◌, ◌%◌, ◌≤◌, ◌<◌, length, take, get_or, T, eqb}
use Rattle.model.specs.Kit.{Memᴰ}
use Rattle.model.specs.{Lists.both, Lists.same, Lists.below, Written.Written, Room.rows_in, Room.Outcome, Room.wrote, Room.refusal}
use Rattle.order.specs.Reordered.{earlier_by}
use Rattle.list_merge.specs.{Merge.ascends}
use Rattle.std.specs.declared.cmp.Ordering.{Ordering}
use Rattle.std.specs.declared.cmp.Ordering.TheVariants.{Less, Equal, Greater}

-- an order of n variables: each is below n, and each below n is there
pub record Places (n : ℕ) (order : List ℕ) : Type 0 where
  pub inside : (x : ℕ) → Memᴰ x order → x < n
  pub each : (x : ℕ) → x < n → Memᴰ x order

-- rows compared by place, by words of bytes
pub record ByPlace (n : ℕ) (order : List ℕ) : Type 0 where
  pub some : 8 ≤ n
  pub order_is : order ≡ below n

-- how rows of n are compared: by place, or in the order
pub record Kind (n : ℕ) (order : List ℕ) (plain : Bool) : Type 0 where
  pub most : n ≤ 12
  pub words : plain ≡ true → ByPlace n order

-- ---- words
-- a number made of the bytes of a list
pub record Number (l : List ℕ) (value r : ℕ) : Type 0 where
  pub is : r ≡ value
  pub bytes : (i : ℕ) → get_or l i 0 < 256

-- the first eight bytes, the first lowest
unfoldable pub eight_of : List ℕ → ℕ
eight_of l =
    get_or l 0 0 + get_or l 1 0 * 256 + get_or l 2 0 * 65536 + get_or l 3 0 * 16777216 + get_or l 4 0 * 4294967296 + get_or l 5 0 * 1099511627776 + get_or l 6 0 * 281474976710656 + get_or l 7
    0 * 72057594037927936

-- four bytes, the first highest
unfoldable pub word_of : List ℕ → ℕ → ℕ
word_of l k = get_or l k 0 * 16777216 + get_or l (k + 1) 0 * 65536 + get_or l (k + 2) 0 * 256 + get_or l (k + 3) 0

-- two rows of n, 8 to 12
pub record Long (n : ℕ) (a b : List ℕ) : Type 0 where
  pub some : 8 ≤ n
  pub most : n ≤ 12
  pub first : length a ≡ n
  pub second : length b ≡ n

-- the rows agree before a place, and the four bytes there decide, or are the last and agree
pub record Decides (n : ℕ) (a b : List ℕ) (r : ℕ) : Type 0 where
  pub fits : r + 4 ≤ n
  pub before : (i : ℕ) → i < r → get_or a i 0 ≡ get_or b i 0
  pub last : word_of a r ≡ word_of b r → r + 4 ≡ n

-- ---- ways
-- how a row stands to another, by whether it reads earlier, and the other does
abbrev pub way_of : Bool → Bool → Ordering
way_of true b = Less
way_of false true = Greater
way_of false false = Equal

-- what is left of the two lists is whole rows
pub record Rests (n : ℕ) (order a b : List ℕ) : Type 0 where
  pub places : Places n order
  pub some : 1 ≤ n
  pub first : length a % n ≡ 0
  pub second : length b % n ≡ 0

-- and ascends
pub record Sorts (n : ℕ) (order a b : List ℕ) : Type 0 where
  pub rests : Rests n order a b
  pub first : T (ascends order (rows_in n a))
  pub second : T (ascends order (rows_in n b))

-- how the second list's next row stands to the first's; a list at its end comes after the other
unfoldable pub stands : ℕ → List ℕ → List ℕ → List ℕ → Ordering
stands n order a b = elim (eqb (length b) 0) [
  | true ↦ Greater
  | false ↦ elim (eqb (length a) 0)
      [ true ↦ Less | false ↦ way_of (earlier_by order (take n b) (take n a)) (earlier_by order (take n a) (take n b)) ]
]

-- whether the next row is the first list's, by how the second's stands to it
abbrev pub of_first : Ordering → Bool
of_first Less = false
of_first Equal = true
of_first Greater = true

-- the list that the next row is of has one, or is the first at its end; where the rows are equal both have one
abbrev pub Fronts : ℕ → Ordering → List ℕ → List ℕ → Type 0
Fronts n Less a b = n ≤ length b
Fronts n Equal a b = (n ≤ length a) × (n ≤ length b)
Fronts n Greater a b = (length a ≡ 0 → ⊥) → n ≤ length a

-- how many bytes the next row takes of each list
abbrev pub taken_first : ℕ → Ordering → ℕ
taken_first n Less = 0
taken_first n Equal = n
taken_first n Greater = n

abbrev pub taken_second : ℕ → Ordering → ℕ
taken_second n Less = n
taken_second n Equal = n
taken_second n Greater = 0

-- the answer on a text for the buffer d: its length, or that it does not fit. It stands at the front of the buffer if it is written, and if it
-- is only counted the buffer is as it came.
pub record Walked (writes : Bool) (d text after : List ℕ) (answer : Outcome) : Type 0 where
  pub fits : length text ≤ length d → answer ≡ wrote (length text)
  pub short : length d < length text → answer ≡ refusal 27 0
  pub written : writes ≡ true → Written d 0 text after (length text)
  pub kept : writes ≡ false → after ≡ d

-- how many bytes of a list a row takes away: its first row, where that is the row
unfoldable pub taken : ℕ → List ℕ → List ℕ → ℕ
taken n rest row = elim (both (not (eqb (length rest) 0)) (same (take n rest) row)) [ true ↦ n | false ↦ 0 ]
