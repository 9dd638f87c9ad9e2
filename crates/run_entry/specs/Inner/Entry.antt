-- What the functions of an entry ask and leave.
use Rattle.std.specs.Prelude.{◌≡◌, ◌⊎◌, List, map, ℕ, ◌+◌, ◌-◌, ◌*◌, ◌≤◌, ◌<◌, length}
use Rattle.model.specs.Kit.{Memᴰ}
use Rattle.model.specs.{Lists.at, Run.Tally}
use Rattle.order.specs.{Order.Ordering, Reordered.write}
use Rattle.arrays.specs.Inner.Places.{VARIABLES, LIMIT, ROOM, PLANS, LAST, IDLE, DEPTH, LOW, GOOD, NODES, LENGTH, ROWS, FIRST, SETS, ENDS, COUNTS, WORK}
use Rattle.run_alike.specs.Inner.Alike.{moved}
use Rattle.run_state.specs.{Inner.Memo.Stand, Inner.Pair.prefix_of, Inner.Pair.settling, Inner.Pair.order_in, Inner.Pair.ListRoom}
use Rattle.run_passed.specs.Inner.Passed.{noted_all}
use Rattle.run_key.specs.Inner.Key.{Placed, SameSets}

-- the entry at s has the key of depth k, its nodes may all be made after so many others, and its plans listed
pub record Compared (stack numbers work : List ℕ) (made k pending low good s : ℕ) : Type 0 where
  pub depth : at work (s + DEPTH) ≡ k
  pub low_is : at work (s + LOW) ≡ low
  pub good_is : at work (s + GOOD) ≡ good
  pub fits : made + at work (s + NODES) ≤ at numbers LIMIT
  pub room : at work PLANS + at work (s + ROWS) ≤ at numbers ROOM
  pub sets : SameSets stack numbers work k (at numbers VARIABLES) pending low s

-- the values of the row at `from` of the list stand in `work` from the k-th on
pub record Loaded (numbers list : List ℕ) (k n from : ℕ) (work work' : List ℕ) : Type 0 where
  pub values : (i : ℕ) → k ≤ i → i < n → at work' i ≡ at list (from + settling numbers i)
  pub small : (i : ℕ) → k ≤ i → i < n → at work' i < 256
  pub others : (i : ℕ) → (i < k) ⊎ (n ≤ i) → at work' i ≡ at work i
  pub long : length work' ≡ length work

-- the plans of the entry at s may be listed once more, with the first k values in front
pub record Copies (numbers work list : List ℕ) (k s : ℕ) : Type 0 where
  pub few : at numbers VARIABLES ≤ 12
  pub inner : k ≤ at numbers VARIABLES
  pub long : length work ≡ WORK
  pub placed : Placed s
  pub order : Ordering (at numbers VARIABLES) (order_in numbers (at numbers VARIABLES))
  pub room : ListRoom (at numbers VARIABLES) (at numbers ROOM) list (at work PLANS)
  pub fits : at work PLANS + at work (s + ROWS) ≤ at numbers ROOM
  pub past : at work (s + FIRST) + at work (s + ROWS) ≤ at work PLANS
  pub bytes : (i : ℕ) → i < k → at work i < 256

-- r of them are, and those that are left of ts
pub record CopyLeft (n : ℕ) (order a : List ℕ) (first plans rows r : ℕ) (list : List ℕ) (ts : List (List ℕ)) (list' : List ℕ) : Type 0 where
  pub left : List (List ℕ)
  pub many : length left + r ≡ rows
  pub sized : (t : List ℕ) → Memᴰ t left → length t ≡ n
  pub stand : Stand n (first + r) (map (write order) left) list
  pub same : noted_all n plans (map (write order) (map (moved a) ts)) list ≡ noted_all n (plans + r) (map (write order) (map (moved a) left)) list'

-- what ts says if it is the entry's plans
abbrev pub Stands : List ℕ → List ℕ → List ℕ → ℕ → List (List ℕ) → Type 0
Stands numbers work list s ts =
    (length ts ≡ at work (s + ROWS)) × ((t : List ℕ) → Memᴰ t ts → length t ≡ at numbers VARIABLES)
    × ((length list ≡ 0 → ⊥) → Stand (at numbers VARIABLES) (at work (s + FIRST)) (map (write (order_in numbers (at numbers VARIABLES))) ts) list)

pub record CopiedTo (numbers work list : List ℕ) (k s r : ℕ) (work' list' : List ℕ) : Type 0 where
  pub plans : at work' PLANS ≡ at work PLANS + r
  pub before : (i : ℕ) → i < k → at work' i ≡ at work i
  pub others : (i : ℕ) → 12 ≤ i → (i ≡ PLANS → ⊥) → at work' i ≡ at work i
  pub long : length work' ≡ length work
  pub sized : length list' ≡ length list
  pub bytes : (i : ℕ) → i < at work PLANS * at numbers VARIABLES → at list' i ≡ at list i
  pub left : (ts : List (List ℕ)) → Stands numbers work list s ts → CopyLeft (at numbers VARIABLES) (order_in numbers (at numbers VARIABLES)) (prefix_of work k) (at work (s + FIRST))
      (at work PLANS) (at work (s + ROWS)) r list ts list'

-- all are
pub record Copied (numbers work list : List ℕ) (k s : ℕ) (work' list' : List ℕ) : Type 0 where
  pub plans : at work' PLANS ≡ at work PLANS + at work (s + ROWS)
  pub before : (i : ℕ) → i < k → at work' i ≡ at work i
  pub others : (i : ℕ) → 12 ≤ i → (i ≡ PLANS → ⊥) → at work' i ≡ at work i
  pub long : length work' ≡ length work
  pub list_is : (ts : List (List ℕ)) → Stands numbers work list s ts → list' ≡ noted_all (at numbers VARIABLES) (at work PLANS)
      (map (write (order_in numbers (at numbers VARIABLES))) (map (moved (prefix_of work k)) ts)) list

-- the last node of the entry at s stands in `work`, behind the first k values
pub record Taken (work : List ℕ) (k s : ℕ) (work' : List ℕ) : Type 0 where
  pub values : (x : ℕ) → k ≤ x → x < 12 → at work' x ≡ at work (s + ENDS + x)
  pub last : at work' LAST ≡ at work (s + LENGTH)
  pub before : (x : ℕ) → x < k → x < 12 → at work' x ≡ at work x
  pub others : (i : ℕ) → 12 ≤ i → (i ≡ LAST → ⊥) → (i ≡ IDLE + k → ⊥) → at work' i ≡ at work i
  pub long : length work' ≡ length work

-- the memo was asked in vain at depth k
pub record Charged (work : List ℕ) (k : ℕ) (work' : List ℕ) : Type 0 where
  pub others : (i : ℕ) → (i ≡ IDLE + k → ⊥) → at work' i ≡ at work i
  pub long : length work' ≡ length work

-- the entry at s has of the first x variables the sets of depth k, the values of the last node and what was counted; all else is as it was
pub record FigureIn (stack old new : List ℕ) (k s x : ℕ) (work work' : List ℕ) : Type 0 where
  pub sets : (j : ℕ) → j < x → at work' (s + SETS + j) ≡ at stack (16 * k + j)
  pub ends : (j : ℕ) → j < x → at work' (s + ENDS + j) ≡ at work j
  pub counts : (j : ℕ) → j < x → at work' (s + COUNTS + j) ≡ at new j - at old j
  pub before : (i : ℕ) → i < s + SETS → at work' i ≡ at work i
  pub after : (i : ℕ) → s + COUNTS + 12 ≤ i → at work' i ≡ at work i
  pub long : length work' ≡ length work

-- the entry at s has all that is kept; all else is as it was
pub record Put (stack work : List ℕ) (t t' : Tally) (k low good s : ℕ) (work' : List ℕ) : Type 0 where
  pub depth : at work' (s + DEPTH) ≡ k
  pub low_is : at work' (s + LOW) ≡ low
  pub good_is : at work' (s + GOOD) ≡ good
  pub nodes : at work' (s + NODES) ≡ t'.nodes - t.nodes
  pub length_is : at work' (s + LENGTH) ≡ at work LAST
  pub sets : (j : ℕ) → j < 12 → at work' (s + SETS + j) ≡ at stack (16 * k + j)
  pub ends : (j : ℕ) → j < 12 → at work' (s + ENDS + j) ≡ at work j
  pub counts : (j : ℕ) → j < 12 → at work' (s + COUNTS + j) ≡ at t'.counts j - at t.counts j
  pub before : (i : ℕ) → i < s → at work' i ≡ at work i
  pub after : (i : ℕ) → s + COUNTS + 12 ≤ i → at work' i ≡ at work i
  pub long : length work' ≡ length work

-- and how many plans were listed, and the first of them
pub record PlansPut (work : List ℕ) (plans s : ℕ) (work' : List ℕ) : Type 0 where
  pub first : at work' (s + FIRST) ≡ plans
  pub rows : at work' (s + ROWS) ≡ at work PLANS - plans
  pub others : (i : ℕ) → (i ≡ s + FIRST → ⊥) → (i ≡ s + ROWS → ⊥) → at work' i ≡ at work i
  pub long : length work' ≡ length work
