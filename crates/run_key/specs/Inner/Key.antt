-- The key of a prefix: what a program compares at two of them, and that then the subtrees below are alike.
use Rattle.std.specs.Prelude.{◌≡◌, Bool, not, List, ℕ, ◌+◌, ◌*◌, ◌%◌, ◌<◌, ◌≤◌, T, eqb, ltb, leb}
use Rattle.model.specs.Kit.{bit_and}
use Rattle.model.specs.{Lists.at, Lists.choose, Lists.either, ValueSets.has}
use Rattle.arrays.specs.Inner.Places.{ENTAILED, OBEYED, SETS, ENTRIES}
use Rattle.run_state.specs.Inner.Memo.{entry_at}

-- the set has each constraint that has two of the variables from k up to n in its scope
abbrev pub Pending : List ℕ → ℕ → ℕ → ℕ → Type 0
Pending numbers k n r = (c i j : ℕ) → k ≤ i → i < j → j < n → T (has (at numbers i) c) → T (has (at numbers j) c) → T (has r c)

-- the set has each constraint that has one of the variables from k up to n in its scope
abbrev pub Seen : List ℕ → ℕ → ℕ → ℕ → Type 0
Seen numbers k n r = (c i : ℕ) → k ≤ i → i < n → T (has (at numbers i) c) → T (has r c)

-- the lower of a level and that which a mark has passed
unfoldable pub lowered : ℕ → ℕ → ℕ
lowered low mark = choose (eqb mark OBEYED) low (choose (ltb (mark % ENTAILED) low) (mark % ENTAILED) low)

-- the set of variable x is compared
abbrev pub compared : List ℕ → ℕ → ℕ → ℕ → Bool
compared numbers pending low x = either (leb low x) (not (eqb (bit_and (at numbers x) pending) 0))

-- an entry stands there
pub record Placed (s : ℕ) : Type 0 where
  pub index : ℕ
  pub inside : index < ENTRIES
  pub is : s ≡ entry_at index

-- the sets of depth k of the stack that are compared are those of the entry at s
abbrev pub SameSets : List ℕ → List ℕ → List ℕ → ℕ → ℕ → ℕ → ℕ → ℕ → Type 0
SameSets stack numbers work k n pending low s = (x : ℕ) → x < n → T (compared numbers pending low x) → at stack (16 * k + x) ≡ at work (s + SETS + x)
