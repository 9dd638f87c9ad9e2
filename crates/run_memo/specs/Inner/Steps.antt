-- What the functions of the memo ask and leave.
use Rattle.std.specs.Prelude.{◌≡◌, List, ℕ, ◌+◌, ◌-◌, ◌^◌, ◌≤◌, ◌<◌, length}
use Rattle.model.specs.{Lists.at, Lists.tabulate, Problem.Problem, Search.nodes_below, Run.Tally}
use Rattle.arrays.specs.Inner.Places.{PLANS, ALL, MEMO, ENTRIES, DEPTH, NODES, COUNTS, ASKS, VAIN, WORK}
use Rattle.run_state.specs.{Inner.Memo.entry_at, Inner.Pair.prefix_of, Inner.Pair.AtPrefix, Inner.Pair.Walked}
use Rattle.run_passed.specs.Inner.Passed.{plus}
use Rattle.run_key.specs.Inner.Key.{Placed}

-- no entry holds anything; what stands before the entries is as it was
pub record Cleared (work work' : List ℕ) : Type 0 where
  pub empty : (i : ℕ) → i < ENTRIES → at work' (entry_at i + DEPTH) ≡ 0
  pub before : (j : ℕ) → j < MEMO → at work' j ≡ at work j
  pub long : length work' ≡ length work

-- the tally has twelve counts, which may grow by those of the entry at s
pub record GrowsBy (t : Tally) (work : List ℕ) (s : ℕ) : Type 0 where
  pub twelve : length t.counts ≡ 12
  pub counts : (x : ℕ) → x < 12 → at t.counts x + at work (s + COUNTS + x) < 2 ^ 32
  pub nodes : t.nodes + at work (s + NODES) < 2 ^ 32

abbrev pub grown_by : Tally → List ℕ → ℕ → Tally
grown_by t work s = record { nodes = t.nodes + at work (s + NODES); counts = plus t.counts (tabulate 12 (λ x. at work (s + COUNTS + x))) }

-- ---- what the search calls
-- the memo is asked, and the number is one more than the plans listed
pub record Turned (work numbers : List ℕ) (r : ℕ) : Type 0 where
  pub plans : r ≡ at work PLANS + 1
  pub asks : at numbers ASKS ≡ 0 → ⊥

-- the prefix of k values, not the empty one, is looked for
pub record AtLook (p : Problem) (stack work supports tables numbers list : List ℕ) (tally : Tally) (k : ℕ) : Type 0 where
  pub prefix : AtPrefix p stack work supports tables numbers list tally k
  pub some : 0 < k
  pub asks : at numbers ASKS ≡ 0 → ⊥

-- an entry was answered, and then the nodes below the prefix are walked along once its nodes are counted; or where one may be put, and nothing was done
pub record Looked (p : Problem) (stack work numbers list : List ℕ) (tally : Tally) (k : ℕ) (work' list' : List ℕ) (r : ℕ) : Type 0 where
  pub long : length work' ≡ WORK
  pub placed : r < VAIN → Placed r
  pub grows : r < VAIN → GrowsBy tally work' r
  pub found : r < VAIN → Walked p (nodes_below p (p.variables - k) (prefix_of work k)) stack work numbers list tally k stack work' list' (grown_by tally work' r) ALL
  pub missed : VAIN ≤ r → (work' ≡ work) × (list' ≡ list) × Placed (r - VAIN)

-- the nodes below the prefix were walked along
pub record AtNote (p : Problem) (stack work supports tables numbers list : List ℕ) (tally : Tally) (k : ℕ) (stack' work' list' : List ℕ) (tally' : Tally) (turn place stop : ℕ) : Type 0 where
  pub prefix : AtPrefix p stack work supports tables numbers list tally k
  pub walked : Walked p (nodes_below p (p.variables - k) (prefix_of work k)) stack work numbers list tally k stack' work' list' tally' stop
  pub some : 0 < k
  pub turn_is : turn ≡ at work PLANS + 1
  pub vain : VAIN ≤ place
  pub placed : Placed (place - VAIN)

-- and still are
abbrev pub Noted : Problem → List ℕ → List ℕ → List ℕ → List ℕ → Tally → ℕ → List ℕ → List ℕ → List ℕ → Tally → ℕ → Type 0
Noted p stack work numbers list tally k stack' work' list' tally' stop =
    Walked p (nodes_below p (p.variables - k) (prefix_of work k)) stack work numbers list tally k stack' work' list' tally' stop

-- the first where no place is given, else the second, and then the list stays
pub record Visited (stack work numbers list : List ℕ) (before after : Tally) (turn place k stop : ℕ) (work' list' : List ℕ) (r : ℕ) : Type 0 where
  pub looked : place ≡ 0 → (p : Problem) (supports tables : List ℕ) → AtLook p stack work supports tables numbers list before k → Looked p stack work numbers list before k work' list' r
  pub noted : (place ≡ 0 → ⊥) → (p : Problem) (stack₀ work₀ supports tables list₀ : List ℕ) →
      AtNote p stack₀ work₀ supports tables numbers list₀ before k stack work list after turn place stop → Noted p stack₀ work₀ numbers list₀ before k stack work' list after stop
  pub kept : (place ≡ 0 → ⊥) → list' ≡ list
