-- What a function says of a slice that it is lent by a thin reference.
use Rattle.std.specs.Prelude.{◌≡◌, List, ℕ, length}
use denote.Ref.{MutBor, at_last}

-- the same slice, at a list as long
abbrev pub SameSlice : MutBor (List ℕ) → MutBor (List ℕ) → Type 0
SameSlice x y = (y ≡ at_last x y.now) × (length y.now ≡ length x.now)
