-- Numbers as bytes, low byte first.
use Rattle.std.specs.Prelude.{List, [], ◌∷◌, ℕ, ◌+◌, ◌*◌, ◌/◌, ◌%◌}
use Rattle.model.specs.Lists.{at}

-- in two bytes; the last is a byte where the number is below 2 ^ 16
abbrev pub two_bytes : ℕ → List ℕ
two_bytes k = k % 256 ∷ k / 256 ∷ []

-- in four bytes; the last is a byte where the number is below 2 ^ 32
unfoldable pub four_bytes : ℕ → List ℕ
four_bytes k = k % 256 ∷ k / 256 % 256 ∷ k / 65536 % 256 ∷ k / 16777216 ∷ []

-- the number in the four bytes at an offset
abbrev pub four_at : List ℕ → ℕ → ℕ
four_at l o = at l o + 256 * at l (o + 1) + 65536 * at l (o + 2) + 16777216 * at l (o + 3)
