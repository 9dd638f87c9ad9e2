-- What is claimed of the small sheets (paper 02, #114) by position; of a caller it is in specs/Held.
use Rattle.std.specs.Prelude.{◌≡◌, List, [], ℕ, ◌≤◌, ◌<◌, length, get_or}
use Rattle.sheet_small.specs.Small.{plain_sheets, symmetric_sheets, small_sheets}
use Rattle.sheet_once.specs.Held.{IsSmall}

-- the sheet b stands at a position
abbrev pub Stands : List ℕ → ℕ → Type 0
Stands b k = (k < length small_sheets) × (get_or small_sheets k [] ≡ b)

-- each such sheet stands at exactly one position
abbrev pub EachOnce : Type 0
EachOnce = (b : List ℕ) → IsSmall b → (k : ℕ) × Stands b k × ((j : ℕ) → Stands b j → j ≡ k)

-- nothing else stands at a position
abbrev pub NothingElse : Type 0
NothingElse = (b : List ℕ) (k : ℕ) → Stands b k → IsSmall b

-- 144 without a symmetry and 400 with one
pub record Figures : Type 0 where
  pub plain : length plain_sheets ≡ 144
  pub symmetric : length symmetric_sheets ≡ 400
  pub whole : length small_sheets ≡ 544

-- the room that is asked is enough
abbrev pub RoomEnough : Type 0
RoomEnough = (b : List ℕ) (k : ℕ) → Stands b k → length b ≤ 52
