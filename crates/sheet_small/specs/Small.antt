-- Every sheet of two variables and two values with one constraint on both and at most one symmetry (paper 02, #114), in the paper's order.
use Rattle.std.specs.Prelude.{Bool, List, [], ◌∷◌, ◌++◌, map, ℕ, ◌+◌, ◌*◌, ◌/◌, ◌%◌, length}
use Rattle.model.specs.{Lists.keep, Lists.flat, Lists.up_from, Lists.below, ValueSets.members, Problem.assignments, Verdict.is_accepted, Sheet.verdict_of, Sheet.distinct, Bytes.two_bytes}

-- what such a sheet states but for its symmetry: the two initial sets, and the set of its rows, bits 0 to 3 for 00, 01, 10, 11
pub record Shape : Type 0 where
  pub first : ℕ
  pub second : ℕ
  pub rows : ℕ

-- first set 1 to 3, second set 1 to 3, row set 0 to 15
unfoldable pub shapes : List Shape
shapes = flat (map (λ s. flat (map (λ t. map (λ r. record { first = s; second = t; rows = r }) (below 16)) (up_from 1 3))) (up_from 1 3))

-- every table that permutes the four pair numbers, ascending, the first number first
unfoldable pub tables : List (List ℕ)
tables = keep distinct (assignments (15 ∷ 15 ∷ 15 ∷ 15 ∷ []))

-- the rows of a set of rows
unfoldable pub rows_of : ℕ → List (List ℕ)
rows_of r = map (λ v. v / 2 ∷ v % 2 ∷ []) (members r)

-- the numbers before the tables: header, sets, constraint
unfoldable pub front_of : Shape → ℕ → List ℕ
front_of s tables =
    let rows = rows_of s.rows in
    let third = 28 + 4 * length rows in
    2 ∷ 2 ∷ 1 ∷ tables ∷ 16 ∷ 20 ∷ third ∷ (third + 8 * tables) ∷ s.first ∷ s.second ∷ 2 ∷ length rows ∷ 0 ∷ 1 ∷ flat rows

-- the sheet of a shape with some tables
unfoldable pub sheet_of : Shape → List (List ℕ) → List ℕ
sheet_of s gs = flat (map two_bytes (front_of s (length gs) ++ flat gs))

unfoldable pub is_sheet : List ℕ → Bool
is_sheet b = is_accepted (verdict_of b)

-- the accepted ones without a symmetry
unfoldable pub plain_sheets : List (List ℕ)
plain_sheets = keep is_sheet (map (λ s. sheet_of s []) shapes)

-- those with one: in the same order, each shape with all its acceptable tables
unfoldable pub symmetric_sheets : List (List ℕ)
symmetric_sheets = keep is_sheet (flat (map (λ s. map (λ g. sheet_of s (g ∷ [])) tables) shapes))

unfoldable pub small_sheets : List (List ℕ)
small_sheets = plain_sheets ++ symmetric_sheets
