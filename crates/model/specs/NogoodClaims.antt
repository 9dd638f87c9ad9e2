-- What an entry is, in words (paper 02, #105), and when a list says nothing more (#102). The proofs are in proofs/EntryKinds.antt.
use Rattle.std.specs.Prelude.{◌≡◌, ◌⊎◌, List, ℕ, ◌<◌, T, eqb, ltb}
use Rattle.model.specs.Kit.{Memᴰ}
use Rattle.model.specs.Nogood.{Entry, equality, disequality, obeys, mark, Kind, is_equality, is_disequality, both_absent, both_present, kind_of, entry_of, entry_ok}
use Rattle.model.specs.{Lists.both, Lists.either, Problem.assignments}

-- each case as a condition on the two numbers
abbrev pub CaseOf : Kind → ℕ → ℕ → Type 0
CaseOf is_equality equal unequal = (equal ≡ mark → ⊥) × (unequal ≡ mark)
CaseOf is_disequality equal unequal = (equal ≡ mark) × (unequal ≡ mark → ⊥)
CaseOf both_absent equal unequal = (equal ≡ mark) × (unequal ≡ mark)
CaseOf both_present equal unequal = (equal ≡ mark → ⊥) × (unequal ≡ mark → ⊥)

-- any two numbers fall under exactly one case: one holds, the one that is computed, and no two hold together
abbrev pub KindHolds : Type 0
KindHolds = (equal unequal : ℕ) → CaseOf (kind_of equal unequal) equal unequal

abbrev pub KindsApart : Type 0
KindsApart = (equal unequal : ℕ) (k l : Kind) → CaseOf k equal unequal → CaseOf l equal unequal → k ≡ l

-- 19 is given for just the entries that paper 01 says: its place is one of the sets', just one of the two is 255, and the other is below 16
abbrev pub SameQuestion : Type 0
SameQuestion =
    (n x equal unequal : ℕ) →
    entry_ok n x equal unequal ≡ both (ltb x n) (either (both (eqb equal 255) (ltb unequal 16)) (both (eqb unequal 255) (ltb equal 16)))

-- an entry that is right is of the first kind or of the second, and says so
abbrev pub RightKinds : Type 0
RightKinds =
    (n x equal unequal : ℕ) → T (entry_ok n x equal unequal) →
    (x < n) × (((entry_of x equal unequal ≡ equality x equal) × (equal < 16)) ⊎ ((entry_of x equal unequal ≡ disequality x unequal) × (unequal < 16)))

-- ---- every assignment from the sets obeys the nogoods
abbrev pub Entails : List ℕ → List Entry → Type 0
Entails ds es = (a : List ℕ) → Memᴰ a (assignments ds) → T (obeys a es)
