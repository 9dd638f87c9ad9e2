-- What the inner functions ask and leave: a walk along the nodes of a part below a prefix, one value at a time.
use Rattle.std.specs.Prelude.{◌≡◌, Bool, true, false, List, [], ◌∷◌, ◌++◌, ℕ, suc, ◌+◌, ◌-◌, ◌*◌, ◌≤◌, ◌<◌, min, T, length}
use Rattle.model.specs.{Lists.at, Lists.both, ValueSets.has, ValueSets.mask_of, Problem.Problem, Search.sets_at, Search.is_live, Run.Tally}
use Rattle.arrays.specs.Inner.Places.{LIMIT, LAST, MARKS, ALL, DEEPER}
use Rattle.run_state.specs.{Inner.Walk.with_node, Inner.Walk.no_nodes, Inner.Memo.Remembers, Inner.Pair.prefix_of, Inner.Pair.settling, Inner.Pair.AtPrefix, Inner.Pair.Walked, Inner.Pair.order_in}
use Rattle.run_state.specs.Inner.Pair.{own_problem_in}
use Rattle.run_ranges.specs.Inner.Within.{within, leaves, into_nodes, in_range}

-- the members from `low` up and below `high`
abbrev pub range_mask : ℕ → ℕ → ℕ → ℕ
range_mask s low high = mask_of (λ u. both (has s u) (in_range low high u))

-- a path stands in `work` from k on, as far as there are variables
abbrev pub Stands : List ℕ → List ℕ → ℕ → Type 0
Stands from work k = (i : ℕ) → i < length from → k + i < 12 → at work (k + i) ≡ at from i

-- ---- one value down the path in `work`
pub record AtStep (p : Problem) (stack work supports tables numbers list : List ℕ) (tally : Tally) (k : ℕ) : Type 0 where
  pub prefix : AtPrefix p stack work supports tables numbers list tally k
  pub value : at work k < 256
  pub inner : k + 1 < p.variables

pub record Stepped (p : Problem) (stack work supports tables numbers list : List ℕ) (tally : Tally) (k : ℕ) (stack' work' : List ℕ) (goes : Bool) : Type 0 where
  pub next : goes ≡ true → AtPrefix p stack' work' supports tables numbers list tally (k + 1)
  pub member : goes ≡ true → T (leaves p (prefix_of work k) (at work k))
  pub ends : goes ≡ false → (from upto : List ℕ) → into_nodes p (p.variables - (k + 1)) (prefix_of work k) (at work k) from upto ≡ []
  pub values : (i : ℕ) → i < 16 → at work' i ≡ at work i
  pub sets : (i : ℕ) → i < 16 * suc k → at stack' i ≡ at stack i
  pub marks : (i : ℕ) → MARKS ≤ i → i < 16 * suc (suc k) → at work' i ≡ at work i
  pub stack_length : length stack' ≡ length stack
  pub work_length : length work' ≡ length work
  pub memo : Remembers p (own_problem_in p numbers) (order_in numbers p.variables) work' list

-- ---- a node that is not of the last variable
pub record AtPut (p : Problem) (stack work supports tables numbers list : List ℕ) (tally : Tally) (k v : ℕ) : Type 0 where
  pub prefix : AtPrefix p stack work supports tables numbers list tally k
  pub member : T (has (at (sets_at p (prefix_of work k)) k) v)
  pub inner : k + 1 < p.variables
  pub due : tally.nodes ≡ at numbers LIMIT → ⊥

pub record PutNode (p : Problem) (stack work supports tables numbers list : List ℕ) (tally : Tally) (k v : ℕ) (stack' work' : List ℕ) (live : Bool) : Type 0 where
  pub dead : live ≡ false → is_live p (prefix_of work k ++ (v ∷ [])) ≡ false
  pub alone : live ≡ false → Walked p ((prefix_of work k ++ (v ∷ [])) ∷ []) stack work numbers list tally k stack' work' list (with_node (settling numbers k) tally) ALL
  pub next : live ≡ true → AtPrefix p stack' work' supports tables numbers list (with_node (settling numbers k) tally) (k + 1)
  pub node : prefix_of work' (k + 1) ≡ prefix_of work k ++ (v ∷ [])
  pub then : (ts : List (List ℕ)) (stack'' work'' list'' : List ℕ) (tally'' : Tally) (stop : ℕ) →
      Walked p ts stack' work' numbers list (with_node (settling numbers k) tally) (k + 1) stack'' work'' list'' tally'' stop →
      Walked p ((prefix_of work k ++ (v ∷ [])) ∷ ts) stack work numbers list tally k stack'' work'' list'' tally'' stop

-- ---- the walk
pub record AtBelow (p : Problem) (from stack work supports tables numbers list : List ℕ) (tally : Tally) (k : ℕ) : Type 0 where
  pub prefix : AtPrefix p stack work supports tables numbers list tally k
  pub stands : Stands from work k
  pub short : 0 < length from → at work LAST ≤ 12

pub record AtInto (p : Problem) (from stack work supports tables numbers list : List ℕ) (tally : Tally) (k : ℕ) : Type 0 where
  pub prefix : AtPrefix p stack work supports tables numbers list tally k
  pub value : at work k < 256
  pub stands : Stands from work (k + 1)
  pub short : at work LAST ≤ 12

pub record AtUpTo (p : Problem) (low : ℕ) (upto stack work supports tables numbers list : List ℕ) (tally : Tally) (k : ℕ) : Type 0 where
  pub prefix : AtPrefix p stack work supports tables numbers list tally k
  pub some : 0 < length upto
  pub lower : low ≤ at upto 0

pub record AtOnto (p : Problem) (stack work supports tables numbers list : List ℕ) (tally : Tally) (k : ℕ) : Type 0 where
  pub prefix : AtPrefix p stack work supports tables numbers list tally k
  pub inner : k + 1 < p.variables

-- ---- before the walk and after it
-- the path stands in `work`, of which twelve values are kept, as the last node made
pub record PutPath (path work work' : List ℕ) : Type 0 where
  pub values : (i : ℕ) → i < length path → i < 12 → at work' i ≡ at path i
  pub last : at work' LAST ≡ min (length path) 12
  pub bytes : (i : ℕ) → i < at work' LAST → at work' i < 256
  pub others : (i : ℕ) → min (length path) 12 ≤ i → (i ≡ LAST → ⊥) → at work' i ≡ at work i
  pub work_length : length work' ≡ length work

-- the last node's values as bytes
pub record Valued (work last : List ℕ) : Type 0 where
  pub twelve : length last ≡ 12
  pub values : (i : ℕ) → i < at work LAST → at last i ≡ at work i

-- there are no nodes, or the part's are walked along
pub record Parted (from upto stack work supports tables numbers list : List ℕ) (step : ℕ) (stack' work' list' : List ℕ) (tally' : Tally) (stop : ℕ) : Type 0 where
  pub none : (step ≡ DEEPER → ⊥) → (stop ≡ step) × (tally' ≡ no_nodes) × (work' ≡ work) × (list' ≡ list)
  pub some : step ≡ DEEPER → (p : Problem) → AtBelow p from stack work supports tables numbers list no_nodes 0 →
      Walked p (within p (p.variables - 0) (prefix_of work 0) from upto) stack work numbers list no_nodes 0 stack' work' list' tally' stop
