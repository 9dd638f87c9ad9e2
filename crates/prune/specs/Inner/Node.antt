-- What the functions of this crate ask and leave: the sets at a prefix (paper 01, "The search") on a lent stack of thirteen depths.
-- Depth k has the sets of sixteen variables from 16 k on. The numbers of `work` from 0 to 11 are the prefix, the value of variable j at j;
-- from 16 k + MARKS on, the marks of depth k: what is known there of each symmetry's nogoods.
use Rattle.std.specs.Prelude.{◌≡◌, Bool, false, not, List, [], ◌∷◌, ◌++◌, ℕ, ◌+◌, ◌*◌, ◌≤◌, ◌<◌, T, length, take}
use Rattle.model.specs.{Lists.at, ValueSets.has, Problem.Problem, Problem.with_symmetries, Search.sets_at, Search.is_live, Inner.WellFormed.WellFormed}
use Rattle.arrays.specs.{Inner.Places.BLOCK, Inner.Places.MARKS, Inner.Places.STACK, Inner.Places.WORK, Inner.Tables.Indexed}
use Rattle.block.specs.Inner.BlockSets.{BlockIn}
use Rattle.prune_symmetries.specs.Inner.Levels.{Mark}

-- depth k of the stack holds the sets ds of p's variables, and {0} for every other of sixteen
pub record SetsHeld (p : Problem) (stack : List ℕ) (k : ℕ) (ds : List ℕ) : Type 0 where
  pub sets : (x : ℕ) → x < p.variables → at stack (16 * k + x) ≡ at ds x
  pub unused : (x : ℕ) → p.variables ≤ x → x < 16 → at stack (16 * k + x) ≡ 1

-- the variables of the block, as a test
abbrev pub block_of : List ℕ → ℕ → Bool
block_of numbers x = has (at numbers BLOCK) x

-- The prefixes are those of p, which the arrays hold, with the symmetries gs: p's own and the orderings of the block.
-- the arrays hold p, which has no more symmetries than they have room for, and the block, whose orderings are among gs;
-- what is lent to write on has its length (a reference to an array tells its length to no proof)
pub record Ready (p : Problem) (gs : List (List ℕ)) (stack work supports tables numbers : List ℕ) : Type 0 where
  pub indexed : Indexed p numbers supports tables
  pub well_formed : WellFormed p
  pub block : BlockIn p (block_of numbers) gs
  pub block_few : (x : ℕ) → T (block_of numbers x) → x < p.variables
  pub symmetries : length p.symmetries ≤ 16
  pub stack_length : length stack ≡ STACK
  pub work_length : length work ≡ WORK

-- the marks of depth k are right for sets at a prefix
abbrev pub MarksRight : Problem → List ℕ → List ℕ → List ℕ → ℕ → Type 0
MarksRight p ds prefix work k = (e : ℕ) → e < length p.symmetries → Mark p ds prefix e (at work (16 * k + MARKS + e))

-- and for those at the prefix
abbrev pub Marked : Problem → List (List ℕ) → List ℕ → List ℕ → ℕ → Type 0
Marked p gs work prefix k = MarksRight p (sets_at (with_symmetries p gs) prefix) prefix work k

-- the prefix of k values that work holds is live, its sets and marks are at depth k, and the next value in work is one of variable k's
pub record AtNode (p : Problem) (gs : List (List ℕ)) (stack work supports tables numbers : List ℕ) (k : ℕ) : Type 0 where
  pub ready : Ready p gs stack work supports tables numbers
  pub room : k < p.variables
  pub live : T (is_live (with_symmetries p gs) (take k work))
  pub held : SetsHeld p stack k (sets_at (with_symmetries p gs) (take k work))
  pub marked : Marked p gs work (take k work) k
  pub member : T (has (at (sets_at (with_symmetries p gs) (take k work)) k) (at work k))

-- the prefix with one value more
abbrev pub longer : List ℕ → ℕ → List ℕ
longer work k = take k work ++ (at work k ∷ [])

-- the answer is whether the prefix is dead; its sets and marks are at depth k where it is live. What a dead prefix leaves in the sets and marks of depth k
-- is open; no other set, no value of the prefix and no other mark is changed
pub record Reached (p : Problem) (gs : List (List ℕ)) (prefix : List ℕ) (k : ℕ) (stack work stack' work' : List ℕ) (dead : Bool) : Type 0 where
  pub answers : dead ≡ not (is_live (with_symmetries p gs) prefix)
  pub holds : dead ≡ false → SetsHeld p stack' k (sets_at (with_symmetries p gs) prefix)
  pub before : (i : ℕ) → i < 16 * k → at stack' i ≡ at stack i
  pub after : (i : ℕ) → 16 * k + 16 ≤ i → at stack' i ≡ at stack i
  pub marked : dead ≡ false → Marked p gs work' prefix k
  pub kept : (j : ℕ) → j < 16 * k + MARKS → at work' j ≡ at work j
  pub beyond : (j : ℕ) → 16 * k + MARKS + 16 ≤ j → at work' j ≡ at work j
  pub stack_length : length stack' ≡ length stack
  pub work_length : length work' ≡ length work
