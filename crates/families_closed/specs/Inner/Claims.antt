-- The first two whose product is missing, of a problem; of a caller it is in specs/Calls. The proofs are in proofs/Open.antt.
use Rattle.std.specs.Prelude.{◌≡◌, ◌↔◌, ℕ}
use Rattle.model.specs.Problem.{Problem}
use Rattle.families.specs.Families.{Closed}
use Rattle.families_closed.specs.Open.{first_open, FirstOpen, none, two}

-- there are none exactly if the symmetries are closed
abbrev pub OpenNone : Type 0
OpenNone = (p : Problem) → (first_open p ≡ none) ↔ Closed p

-- else they are such ones
abbrev pub OpenFirst : Type 0
OpenFirst = (p : Problem) (a b : ℕ) → first_open p ≡ two a b → FirstOpen p a b
