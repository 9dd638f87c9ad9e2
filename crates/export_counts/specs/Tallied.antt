-- Counts as bytes (paper 02, #107).
use Rattle.std.specs.Prelude.{List, [], ◌∷◌, ◌++◌, ℕ}
use Rattle.model.specs.Bytes.{four_bytes}

-- numbers of four bytes, one after another
unfoldable pub numbers_of : List ℕ → List ℕ
numbers_of [] = []
numbers_of (k ∷ ks) = four_bytes k ++ numbers_of ks
