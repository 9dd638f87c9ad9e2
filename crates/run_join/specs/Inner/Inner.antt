-- What the functions inside the crate say to each other.
use Rattle.std.specs.Prelude.{◌≡◌, Bool, true, false, Option, None, Some, List, ℕ, ◌+◌, ◌*◌, ◌/◌, ◌%◌, ◌^◌, ◌≤◌, ◌<◌, T, eqb, length}
use Rattle.model.specs.{Lists.at, Lists.both, Lists.either, Lists.same, ValueSets.has}
use Rattle.run_join.specs.Join.{four_at, path_shaped, from_at, reach_at}
use Rattle.run_join.specs.Join.{head_shaped, heads_in, goes_on, joined, leads, may_take, stand_path, nearest_of, head_number, stands, plans_of, nodes_of, count_of}
use Rattle.run_join.specs.declared.Missing.{Missing}

-- a path stands at an offset
pub record Path (l : List ℕ) (o : ℕ) : Type 0 where
  pub fits : o + 13 ≤ length l
  pub shaped : path_shaped l o ≡ true

-- the first n heads are heads
pub record Heads (l : List ℕ) (n : ℕ) : Type 0 where
  pub few : n ≤ 65536
  pub fits : 115 * n ≤ length l
  pub shaped : (k : ℕ) → k < n → head_shaped l k ≡ true

-- head k is a head
pub record HeadAt (l : List ℕ) (k : ℕ) : Type 0 where
  pub fits : 115 * k + 115 ≤ length l
  pub shaped : head_shaped l k ≡ true

-- a head, or none
abbrev pub HeadOr : List ℕ → Option ℕ → Type 0
HeadOr l None = Unit {0}
HeadOr l (Some k) = HeadAt l k

-- head k is marked by a bit
unfoldable pub marked : List ℕ → ℕ → Bool
marked marks k = has (at marks (k / 64)) (k % 64)

-- head k is marked and begins at the path s
abbrev pub begins : List ℕ → List ℕ → List ℕ → ℕ → Bool
begins marks l s k = both (marked marks k) (same (from_at l k) s)

-- of the numbers from k on, below n, the first that passes a test
abbrev pub First : (ℕ → Bool) → ℕ → ℕ → Option ℕ → Type 0
First test k n None = (j : ℕ) → k ≤ j → j < n → test j ≡ false
First test k n (Some i) = (k ≤ i) × (i < n) × (test i ≡ true) × ((j : ℕ) → k ≤ j → j < i → test j ≡ false)

pub record NoMarks (marks : List ℕ) : Type 0 where
  pub long : length marks ≡ 1024
  pub none : (k : ℕ) → marked marks k ≡ false

pub record MarkedToo (marks : List ℕ) (k : ℕ) (marks' : List ℕ) : Type 0 where
  pub long : length marks' ≡ 1024
  pub bits : (j : ℕ) → marked marks' j ≡ either (marked marks j) (eqb j k)

-- of the first n heads those that go on and reach the path s are marked too
pub record MarkedBack (s l : List ℕ) (n : ℕ) (marks marks' : List ℕ) : Type 0 where
  pub long : length marks' ≡ 1024
  pub bits : (k : ℕ) → k < n → marked marks' k ≡ either (marked marks k) (both (same (reach_at l k) s) (goes_on l k))

-- the first of n heads that is marked and not done
pub record Pending (marks done : List ℕ) (n : ℕ) (r : Option ℕ) : Type 0 where
  pub none : r ≡ None → (k : ℕ) → k < n → T (marked marks k) → T (marked done k)
  pub one : (k : ℕ) → r ≡ Some k → (k < n) × T (marked marks k) × (T (marked done k) → ⊥)

-- the heads that lead are marked
pub record Leading (l : List ℕ) (n : ℕ) (marks : List ℕ) : Type 0 where
  pub long : length marks ≡ 1024
  pub bits : (k : ℕ) → k < n → marked marks k ≡ leads l k

-- whether the ranges join, and the heads that may be taken are marked
pub record Ways (l : List ℕ) (n : ℕ) (marks : List ℕ) (r : Bool) : Type 0 where
  pub joins : r ≡ joined l
  pub may : (k : ℕ) → k < n → marked marks k ≡ may_take l k

-- sums that have room for another head's figures
pub record Room (p m : ℕ) (cs : List ℕ) : Type 0 where
  pub plans : p < 2 ^ 63
  pub nodes : m < 2 ^ 63
  pub counts : (x : ℕ) → x < 12 → at cs x < 2 ^ 63

-- the counts with those of head k
pub record AddedCounts (counts l : List ℕ) (k : ℕ) (sums : List ℕ) : Type 0 where
  pub each : (x : ℕ) → x < 12 → at sums x ≡ at counts x + four_at l (115 * k + 12 + 4 * x)
  pub few : (x : ℕ) → x < 12 → at sums x < at counts x + 2 ^ 32

-- the sums with the figures of head k
pub record AddedHead (p m : ℕ) (cs l : List ℕ) (k stand p' m' : ℕ) (cs' : List ℕ) : Type 0 where
  pub at_head : stand ≡ k + 1
  pub plans : p' ≡ p + four_at l (115 * k + 4)
  pub nodes : m' ≡ m + four_at l (115 * k + 8)
  pub few_plans : p' < p + 2 ^ 32
  pub few_nodes : m' < m + 2 ^ 32
  pub counts : AddedCounts cs l k cs'

-- where one stands behind the heads taken, and their sums
pub record Summed (l : List ℕ) (stand p m : ℕ) (cs : List ℕ) : Type 0 where
  pub behind : stand ≡ stands l
  pub inside : stand ≤ heads_in l
  pub plans : p ≡ plans_of l
  pub nodes : m ≡ nodes_of l
  pub counts : (x : ℕ) → x < 12 → at cs x ≡ count_of l x

-- what is missing of heads that are not refused, from where one stands
pub record Said (l : List ℕ) (joins : Bool) (stand : ℕ) (r : Option Missing) : Type 0 where
  pub joined : joins ≡ true → r ≡ None
  pub missing : joins ≡ false → (m : Missing) → r ≡ Some m → (head_number m.from ≡ stand) × (head_number m.upto ≡ nearest_of l (stand_path l stand) (heads_in l)) ×
      (head_number m.upto ≤ heads_in l)
  pub some : joins ≡ false → r ≡ None → ⊥
