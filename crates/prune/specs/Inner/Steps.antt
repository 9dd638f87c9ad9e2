-- What the functions inside this crate say to each other: sixteen sets at hand, of which the first are those of p's variables.
use Rattle.std.specs.Prelude.{◌≡◌, Bool, true, false, not, List, ℕ, ◌+◌, ◌-◌, ◌*◌, ◌≤◌, ◌<◌, T, eqb, ltb, length, take, Option, MatchOption}
use Rattle.model.specs.Kit.{Memᴰ}
use Rattle.model.specs.{Lists.both, Lists.at, Lists.tabulate, ValueSets.has, ValueSets.mask_of, ValueSets.any_empty, ValueSets.Inside, Problem.Problem, Problem.with_symmetries, Problem.constraint_at}
use Rattle.model.specs.{Nogood.filtered, Search.nogoods_of, Search.sets_at, Search.is_live, Inner.Pruning.Sets, Inner.Pruning.Way, Inner.Pruning.Prunes}
use Rattle.model.specs.Inner.WellFormed.{WellFormed}
use Rattle.arrays.specs.{Inner.Places.MARKS, Inner.Places.WORK, Inner.Tables.Indexed, Inner.Tables.is_by_rows, Inner.Pruning.Given, Inner.Pruning.Ended}
use Rattle.arrays.specs.Inner.Pruning.{Fixed, Arc, sets_of}
use Rattle.block.specs.{Inner.BlockSets.BlockIn, Inner.Claims.Ascends}
use Rattle.prune.specs.Inner.Node.{MarksRight, block_of}

-- the arrays hold p
pub record ArraysHold (p : Problem) (supports tables numbers : List ℕ) : Type 0 where
  pub indexed : Indexed p numbers supports tables
  pub well_formed : WellFormed p
  pub symmetries : length p.symmetries ≤ 16

-- ---- the constraints
-- only the constraints of `todo`, and the constraints by variable of the variables of `dirty`, may take something
pub record Pending (p : Problem) (numbers sets : List ℕ) (todo dirty : ℕ) : Type 0 where
  pub given : Given p sets
  pub known : (k : ℕ) → T (has todo k) → k < length p.constraints
  pub others : (k : ℕ) → k < length p.constraints → has todo k ≡ false → is_by_rows p k ≡ false → Fixed (sets_of p sets) (constraint_at p k)
  pub inner : (x : ℕ) → T (has dirty x) → x < p.variables
  pub arcs : (x : ℕ) → x < p.variables → has dirty x ≡ false → Arc p (sets_of p sets) x

-- on the way only values went that a round of pruning takes too, at any prefix
pub record PrunedSoFar (p : Problem) (sets sets' : List ℕ) : Type 0 where
  pub ways : (prefix : List ℕ) → Prunes p prefix (sets_of p sets) (sets_of p sets')
  pub less : Inside sets' sets
  pub unused : (x : ℕ) → p.variables ≤ x → at sets' x ≡ at sets x

-- and no constraint takes anything more
pub record AllConstrained (p : Problem) (sets sets' : List ℕ) : Type 0 where
  pub so_far : PrunedSoFar p sets sets'
  pub given : Given p sets'
  pub fixed : (k : ℕ) → k < length p.constraints → Fixed (sets_of p sets') (constraint_at p k)
  pub arcs : (x : ℕ) → x < p.variables → Arc p (sets_of p sets') x

pub record AllConstrainedOr (p : Problem) (sets sets' : List ℕ) (dead : Bool) : Type 0 where
  pub ended : dead ≡ true → Ended p sets
  pub all_constrained : dead ≡ false → AllConstrained p sets sets'

-- ---- the filters
-- work begins with k values, each of its variable's initial set
pub record PrefixHeld (p : Problem) (work : List ℕ) (k : ℕ) : Type 0 where
  pub depth : k ≤ p.variables
  pub values : (j : ℕ) → j < k → T (has (at p.initial j) (at work j))
  pub work_length : length work ≡ WORK

-- none of p's sets is empty, and every unused set is {0}
pub record LiveSets (p : Problem) (sets : List ℕ) : Type 0 where
  pub sixteen : Sets 16 sets
  pub full : any_empty (sets_of p sets) ≡ false
  pub unused : (x : ℕ) → p.variables ≤ x → x < 16 → at sets x ≡ 1

-- what the filters of all symmetries, one after another, leave: values that no round keeps went, and where nothing went, no filter takes anything
pub record AllFiltered (p : Problem) (prefix sets sets' : List ℕ) : Type 0 where
  pub live : LiveSets p sets'
  pub less : Inside sets' sets
  pub way : Prunes p prefix (sets_of p sets) (sets_of p sets')
  pub fixed : sets' ≡ sets → (g : List ℕ) → Memᴰ g p.symmetries → filtered (sets_of p sets) (nogoods_of p g prefix) ≡ sets_of p sets

-- a dead end at a prefix: values that no round keeps went, and a set is empty
abbrev pub EndedAt : Problem → List ℕ → List ℕ → Type 0
EndedAt p prefix sets = (es : List ℕ) × (Prunes p prefix (sets_of p sets) es × T (any_empty es))

-- nothing of `work` is changed but the marks of depth k
pub record OnlyMarks (work work' : List ℕ) (k : ℕ) : Type 0 where
  pub before : (j : ℕ) → j < 16 * k + MARKS → at work' j ≡ at work j
  pub after : (j : ℕ) → 16 * k + MARKS + 16 ≤ j → at work' j ≡ at work j
  pub size : length work' ≡ length work

pub record AllFilteredOr (p : Problem) (k : ℕ) (work sets work' sets' : List ℕ) (dead : Bool) : Type 0 where
  pub ended : dead ≡ true → EndedAt p (take k work) sets
  pub all_filtered : dead ≡ false → AllFiltered p (take k work) sets sets'
  pub marking : dead ≡ false → MarksRight p (sets_of p sets') (take k work) work' k
  pub kept : OnlyMarks work work' k

-- ---- both by turns
-- the orderings of the block are among gs
pub record Blocked (p : Problem) (gs : List (List ℕ)) (numbers : List ℕ) : Type 0 where
  pub block : BlockIn p (block_of numbers) gs
  pub few : (x : ℕ) → T (block_of numbers x) → x < p.variables

-- sets from which pruning starts: the prefix is held, none is empty, the marks are right
pub record Startable (p : Problem) (work numbers sets : List ℕ) (k todo dirty : ℕ) : Type 0 where
  pub prefix_held : PrefixHeld p work k
  pub live : LiveSets p sets
  pub pending : Pending p numbers sets todo dirty
  pub marking : MarksRight p (sets_of p sets) (take k work) work k

-- and they are on the way to the sets at the prefix, with nothing left to do for the block
pub record BeforeFixpoint (p : Problem) (gs : List (List ℕ)) (work numbers sets : List ℕ) (k todo dirty : ℕ) : Type 0 where
  pub startable : Startable p work numbers sets k todo dirty
  pub way : Way (with_symmetries p gs) (take k work) (sets_of p sets)
  pub ascends : Ascends (block_of numbers) (take k work) (sets_of p sets)

-- the same, where nothing is known yet: every constraint is due, and every filter from its first level on
pub record Unpruned (p : Problem) (gs : List (List ℕ)) (work numbers sets : List ℕ) (k : ℕ) : Type 0 where
  pub prefix_held : PrefixHeld p work k
  pub live : LiveSets p sets
  pub inside : Inside (sets_of p sets) p.initial
  pub way : Way (with_symmetries p gs) (take k work) (sets_of p sets)
  pub ascends : Ascends (block_of numbers) (take k work) (sets_of p sets)

-- of the first k variables the last is settled now, to v: those before it were settled at earlier depths, and none of them is dirty
pub record LastSettled (work : List ℕ) (k v dirty : ℕ) : Type 0 where
  pub some : 1 ≤ k
  pub value : v ≡ at work (k - 1)
  pub clean : (y : ℕ) → y < k - 1 → has dirty y ≡ false

-- there: the answer is whether the prefix is dead, and where it is live, the sets are those at the prefix, and the marks are right for them
pub record AfterFixpoint (p : Problem) (gs : List (List ℕ)) (k : ℕ) (work work' sets : List ℕ) (dead : Bool) : Type 0 where
  pub answers : dead ≡ not (is_live (with_symmetries p gs) (take k work))
  pub sets_are : dead ≡ false → sets_of p sets ≡ sets_at (with_symmetries p gs) (take k work)
  pub live : dead ≡ false → LiveSets p sets
  pub marking : dead ≡ false → MarksRight p (sets_of p sets) (take k work) work' k
  pub kept : OnlyMarks work work' k

-- the variables whose sets differ
pub record Differ (old new : List ℕ) (changed : ℕ) : Type 0 where
  pub few : (x : ℕ) → T (has changed x) → x < 16
  pub differ : (x : ℕ) → x < 16 → has changed x ≡ not (eqb (at new x) (at old x))

-- ---- the block
-- sixteen sets, where those of some variables have lost the values below v
unfoldable pub cut_below : ℕ → ℕ → List ℕ → List ℕ
cut_below some v sets = tabulate (length sets) (λ y. mask_of (λ u. both (has (at sets y) u) (not (both (has some y) (ltb u v)))))

-- one of the sets of some variables would be empty once they are cut
abbrev pub CutEmpty : List ℕ → ℕ → Type 0
CutEmpty cut some = (y : ℕ) × (T (has some y) × (at cut y ≡ 0))

-- they are cut, and r has the variables whose sets changed
pub record CutTo (sets cut sets' : List ℕ) (some r : ℕ) : Type 0 where
  pub cut_to : sets' ≡ cut
  pub full : (y : ℕ) → T (has some y) → at sets' y ≡ 0 → at sets y ≡ 0
  pub differ : Differ sets sets' r
  pub few : (x : ℕ) → T (has r x) → T (has some x)

-- the values below v are taken from the sets of some variables: the answer is the variables whose sets have changed, or None where one is empty
abbrev pub CutOr : List ℕ → List ℕ → List ℕ → ℕ → Option ℕ → Type 0
CutOr sets cut sets' some r = MatchOption r (CutEmpty cut some) (CutTo sets cut sets' some)

-- ---- copies
-- sixteen sets from a depth of the stack
abbrev pub Loaded : List ℕ → ℕ → List ℕ → Type 0
Loaded stack k sets = (length sets ≡ 16) × ((x : ℕ) → x < 16 → at sets x ≡ at stack (16 * k + x))

-- sixteen numbers of a list, from 16 k on
pub record Stored (list : List ℕ) (k : ℕ) (sixteen : ℕ → ℕ) (list' : List ℕ) : Type 0 where
  pub here : (x : ℕ) → x < 16 → at list' (16 * k + x) ≡ sixteen x
  pub before : (i : ℕ) → i < 16 * k → at list' i ≡ at list i
  pub after : (i : ℕ) → 16 * k + 16 ≤ i → at list' i ≡ at list i
  pub size : length list' ≡ length list

-- the marks of g symmetries at depth k are those of depth k + 1 too
pub record MarksCopied (work : List ℕ) (g k : ℕ) (work' : List ℕ) : Type 0 where
  pub here : (e : ℕ) → e < g → e < 16 → at work' (16 * (k + 1) + MARKS + e) ≡ at work (16 * k + MARKS + e)
  pub kept : OnlyMarks work work' (k + 1)
