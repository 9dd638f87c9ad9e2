-- The order of the small sheets by numbers, and the bytes that the code makes.
use Rattle.std.specs.Prelude.{◌≡◌, true, false, List, [], ◌∷◌, ℕ, ◌+◌, ◌-◌, ◌*◌, ◌/◌, ◌%◌, ◌≤◌, ◌<◌, ltb, length, take, set, replicate}
use Rattle.sheet_small.specs.{Small.Shape, Small.sheet_of, Small.small_sheets, Answers.sheet_at, declared.Draft.Draft, declared.Images.Images}

-- the number at index i, from 0, of those below 4 that are not a
abbrev pub skip : ℕ → ℕ → ℕ
skip a i = i + (4 + i - a) / 4

-- shape i and table j in their order
unfoldable pub shape_no : ℕ → Shape
shape_no i = record { first = 1 + i / 48; second = 1 + i / 16 % 3; rows = i % 16 }

abbrev pub second_no : ℕ → ℕ
second_no j = skip (j / 6) (j / 2 % 3)

abbrev pub third_no : ℕ → ℕ
third_no j = skip (j / 6) (skip (j / 2 % 3) (j % 2))

abbrev pub fourth_no : ℕ → ℕ
fourth_no j = skip (j / 6) (skip (j / 2 % 3) (1 - j % 2))

abbrev pub table_no : ℕ → List ℕ
table_no j = j / 6 ∷ second_no j ∷ third_no j ∷ fourth_no j ∷ []

pub record IsTable (j : ℕ) (t : Images) : Type 0 where
  pub a : t.a ≡ j / 6
  pub b : t.b ≡ second_no j
  pub c : t.c ≡ third_no j
  pub d : t.d ≡ fourth_no j

-- the candidates: 144 without a table, then 24 for each shape
unfoldable pub candidate : ℕ → List ℕ
candidate n =
    elim (ltb n 144) [
      | true ↦ sheet_of (shape_no n) []
      | false ↦ sheet_of (shape_no ((n - 144) / 24)) (table_no ((n - 144) % 24) ∷ [])
    ]

-- bytes after some stores, each an index and a value
abbrev pub stores : List ℕ → List (ℕ × ℕ) → List ℕ
stores b [] = b
stores b (p ∷ ps) = stores (set b p.0 p.1) ps

-- where the rows from the second on stand, and the table: each behind the rows before it that are in the set
abbrev pub second_at : ℕ → ℕ
second_at i = 28 + 4 * (i % 16 % 2)

abbrev pub third_at : ℕ → ℕ
third_at i = second_at i + 4 * (i % 16 / 2 % 2)

abbrev pub fourth_at : ℕ → ℕ
fourth_at i = third_at i + 4 * (i % 16 / 4 % 2)

abbrev pub end_at : ℕ → ℕ
end_at i = fourth_at i + 4 * (i % 16 / 8)

-- the rows of shape i put in
abbrev pub with_rows : List ℕ → ℕ → List ℕ
with_rows b i = stores b ((second_at i + 2, 1) ∷ (third_at i, 1) ∷ (third_at i + 2, 0) ∷ (fourth_at i, 1) ∷ (fourth_at i + 2, 1) ∷ [])

-- a table put at a place
abbrev pub with_table : List ℕ → ℕ → ℕ → ℕ → ℕ → ℕ → List ℕ
with_table b at p q r s = stores b ((at, p) ∷ (at + 2, q) ∷ (at + 4, r) ∷ (at + 6, s) ∷ [])

-- the numbers before the rows put in: shape i, its rows up to `end`, so many tables
abbrev pub with_head : List ℕ → ℕ → ℕ → ℕ → List ℕ
with_head b i end tables =
    stores b
    ((0, 2)
    ∷ (2, 2)
    ∷ (4, 1)
    ∷ (6, tables)
    ∷ (8, 16)
    ∷ (10, 20)
    ∷ (12, end)
    ∷ (14, end + 8 * tables)
    ∷ (16, 1 + i / 48)
    ∷ (18, 1 + i / 16 % 3)
    ∷ (20, 2)
    ∷ (22, (end - 28) / 4)
    ∷ (26, 1)
    ∷ [])

-- shape i with so many tables, and a table behind it
abbrev pub draft_bytes : ℕ → ℕ → ℕ → ℕ → ℕ → ℕ → List ℕ
draft_bytes i tables p q r s = with_table (with_head (with_rows (replicate 52 0) i) i (end_at i) tables) (end_at i) p q r s

-- 1 for each number that is no pair of shape i and is moved
abbrev pub moved_by : ℕ → ℕ → ℕ → ℕ → ℕ → ℕ
moved_by i p q r s =
    (p + 3 * (1 - (1 + i / 48) % 2)) / 4
    + ((q + 3) % 4 + 3 * (1 - (1 + i / 48) / 2)) / 4
    + ((r + 2) % 4 + 3 * (1 - (1 + i / 16 % 3) % 2)) / 4
    + ((s + 1) % 4 + 3 * (1 - (1 + i / 16 % 3) / 2)) / 4

-- the first bytes of the draft d, as many as its size, are the sheet b
pub record Drafts (b : List ℕ) (d : Draft) : Type 0 where
  pub is : take d.size d.bytes ≡ b
  pub length_bytes : length d.bytes ≡ 52
  pub some : 0 < d.size
  pub fits : d.size ≤ 52

-- the draft d has the sheet at position k; past the last its size is 0
pub record At (k : ℕ) (d : Draft) : Type 0 where
  pub past : d.size ≡ 0 → length small_sheets ≤ k
  pub here : (d.size ≡ 0 → ⊥) → (k < length small_sheets) × Drafts (sheet_at k) d
