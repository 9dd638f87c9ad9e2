-- What else holds of the merge (paper 02, #106): proofs/Claimed has the proofs.
use Rattle.std.specs.Prelude.{◌≡◌, List, [], ℕ}
use Rattle.model.specs.Verdict.{accepted}
use Rattle.list_merge.specs.Merge.{merged, merge_verdict}

-- merging a list with itself gives the list, and with an empty list the other; the order of the two lists does not matter
abbrev pub Itself : Type 0
Itself = (n : ℕ) (pairs a : List ℕ) (room : ℕ) → merge_verdict n pairs a a room ≡ accepted → merged n pairs a a ≡ a

abbrev pub Empty : Type 0
Empty = (n : ℕ) (pairs a : List ℕ) (room : ℕ) → merge_verdict n pairs a [] room ≡ accepted → (merged n pairs a [] ≡ a) × (merged n pairs [] a ≡ a)

abbrev pub Swapped : Type 0
Swapped = (n : ℕ) (pairs a b : List ℕ) (room : ℕ) → merge_verdict n pairs a b room ≡ accepted → merged n pairs b a ≡ merged n pairs a b
