-- The task of a run, and what is put among the numbers before the search.
use Rattle.std.specs.Prelude.{List, ℕ, zero, suc, ◌+◌, ◌-◌, ◌/◌, eqb, set}
use Rattle.model.specs.Lists.{at, choose}
use Rattle.arrays.specs.Inner.Places.{ORDER}

-- the first k numbers of an order are put
unfoldable pub ordered : List ℕ → ℕ → List ℕ → List ℕ
ordered order zero numbers = numbers
ordered order (suc k) numbers = set (ordered order k numbers) (ORDER + k) (at order k)

-- how many plans of n bytes there is room for, and that room in bytes: the list's, else one less than are asked for
abbrev pub room_for : ℕ → ℕ → ℕ → ℕ
room_for wanted n size = choose (eqb wanted 0) (size / n) (wanted - 1)
