-- Bytes put into a lent buffer: where they end, and that all other bytes are as they came.
use Rattle.std.specs.Prelude.{◌≡◌, List, ◌++◌, ℕ, ◌+◌, length, take, drop}

-- a buffer with a text at a place
unfoldable pub placed : List ℕ → ℕ → List ℕ → List ℕ
placed d at t = take at d ++ t ++ drop (at + length t) d

-- the text was put at a place of the buffer d, which is `after` now; next is the place after the text
pub record Written (d : List ℕ) (at : ℕ) (t after : List ℕ) (next : ℕ) : Type 0 where
  pub bytes : after ≡ placed d at t
  pub ends : next ≡ at + length t

-- the text stands at the front of the buffer d, which is `after` now, and n is its length
pub record Fronted (d t after : List ℕ) (n : ℕ) : Type 0 where
  pub bytes : after ≡ t ++ drop (length t) d
  pub count : n ≡ length t
