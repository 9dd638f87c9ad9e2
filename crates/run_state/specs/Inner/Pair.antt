-- What the functions of the search ask and leave: `settle` walks along the nodes of some values of a variable, and `try_value` along the lowest
-- value's node and those below it.
use Rattle.std.specs.Prelude.{◌≡◌, List, [], ◌∷◌, ◌++◌, ℕ, suc, ◌+◌, ◌-◌, ◌*◌, ◌^◌, ◌≤◌, ◌<◌, T, length, take}
use Rattle.model.specs.Search.{sets_at, is_live, nodes_below}
use Rattle.model.specs.{Lists.at, Lists.tabulate, ValueSets.has, ValueSets.lowest_of, Problem.Problem, Problem.with_symmetries, Run.Tally, Inner.WellFormed.WellFormed, Inner.WellFormed.Respected}
use Rattle.order.specs.{Order.Ordering, Reordered.write}
use Rattle.arrays.specs.Inner.Places.{SYMMETRIES, LIMIT, ROOM, ORDER, PLANS, LAST, MARKS, ALL, DEEPER, DIAGONAL, ASKS}
use Rattle.prune.specs.Inner.Node.{Ready, SetsHeld, Marked}
use Rattle.run_state.specs.{Inner.Memo.Remembers, Inner.Walk.Summed, Inner.Walk.with_node, Inner.Walk.no_nodes, Inner.Walk.State, Inner.Walk.listed, Inner.Walk.walk, Inner.Walk.nodes_for}

-- the prefix: the first k numbers of `work`
unfoldable pub prefix_of : List ℕ → ℕ → List ℕ
prefix_of work k = tabulate k (at work)

-- the variable that is settled at depth k, by which its nodes are counted
abbrev pub settling : List ℕ → ℕ → ℕ
settling numbers k = at numbers (ORDER + k)

-- the order of n variables
unfoldable pub order_in : List ℕ → ℕ → List ℕ
order_in numbers n = tabulate n (settling numbers)

-- a node of variable x may be counted, and is
pub record Countable (x : ℕ) (t : Tally) : Type 0 where
  pub few : x < 12
  pub summed : Summed t
  pub fits : t.nodes + 1 < 2 ^ 32

pub record Counted (x : ℕ) (t t' : Tally) : Type 0 where
  pub is : t' ≡ with_node x t
  pub summed : Summed t'

-- the tally is set to nothing
pub record Cleared (t : Tally) : Type 0 where
  pub is : t ≡ no_nodes
  pub summed : Summed t

-- how far a run has come: the plans listed and the last node made stand in `work`
abbrev pub state_of : Tally → List ℕ → ℕ → List ℕ → State
state_of tally work stop list = record { tally = tally; plans = at work PLANS; stop = stop; list = list; last = prefix_of work (at work LAST) }

-- there is room for so many plans of n bytes, in a list that isn't empty too, and those found so far are among them
pub record ListRoom (n room : ℕ) (list : List ℕ) (plans : ℕ) : Type 0 where
  pub some : 0 < n
  pub fits : (length list ≡ 0 → ⊥) → room * n ≤ length list
  pub listed : plans ≤ room
  pub small : room < 2 ^ 64

-- a plan was found: the answer is FULL where it has no room, else it is listed by variable number, and counted in `work`
pub record Listed (n room : ℕ) (order work list work' list' : List ℕ) (stop : ℕ) : Type 0 where
  pub state : (tally : Tally) (last : List ℕ) → record { tally = tally; plans = at work' PLANS; stop = stop; list = list'; last = last }
      ≡ listed n room (write order (prefix_of work n)) record { tally = tally; plans = at work PLANS; stop = ALL; list = list; last = last }
  pub known : stop < DEEPER
  pub others : (i : ℕ) → (i ≡ PLANS → ⊥) → at work' i ≡ at work i
  pub work_length : length work' ≡ length work

-- the problem that the arrays hold: p with the symmetries that are in them, which are the first of p's; the others are orderings of the block
abbrev pub own_problem_in : Problem → List ℕ → Problem
own_problem_in p numbers = with_symmetries p (take (at numbers SYMMETRIES) p.symmetries)

-- the prefix of k values in `work` is live, its sets and marks stand at depth k, and a run goes on that may make as many nodes as the numbers say,
-- whose counts add up, and go by an order of the variables; what its memo holds is so
pub record AtPrefix (p : Problem) (stack work supports tables numbers list : List ℕ) (tally : Tally) (k : ℕ) : Type 0 where
  pub ready : Ready (own_problem_in p numbers) p.symmetries stack work supports tables numbers
  pub inner : k < p.variables
  pub live : T (is_live p (prefix_of work k))
  pub held : SetsHeld (own_problem_in p numbers) stack k (sets_at p (prefix_of work k))
  pub marked : Marked (own_problem_in p numbers) p.symmetries work (prefix_of work k) k
  pub limited : at numbers LIMIT < 2 ^ 32
  pub allowed : tally.nodes ≤ at numbers LIMIT
  pub summed : Summed tally
  pub order : Ordering p.variables (order_in numbers p.variables)
  pub room : ListRoom p.variables (at numbers ROOM) list (at work PLANS)
  pub well : WellFormed p
  pub respected : (at numbers ASKS ≡ 0 → ⊥) → Respected p
  pub memo : Remembers p (own_problem_in p numbers) (order_in numbers p.variables) work list

-- and m has values of variable k's set alone
pub record AtValues (p : Problem) (stack work supports tables numbers list : List ℕ) (tally : Tally) (k m : ℕ) : Type 0 where
  pub prefix : AtPrefix p stack work supports tables numbers list tally k
  pub inside : (v : ℕ) → T (has m v) → T (has (at (sets_at p (prefix_of work k)) k) v)

-- and there is a value to try, and a node left to make
pub record AtValue (p : Problem) (stack work supports tables numbers list : List ℕ) (tally : Tally) (k m : ℕ) : Type 0 where
  pub values : AtValues p stack work supports tables numbers list tally k m
  pub some : 0 < m
  pub due : tally.nodes ≡ at numbers LIMIT → ⊥

-- a walk along the nodes ts, after which the counts still add up; no set and no mark of a depth up to k and no value of the prefix is changed; what the
-- memo holds is so
pub record Walked (p : Problem) (ts : List (List ℕ)) (stack work numbers list : List ℕ) (tally : Tally) (k : ℕ) (stack' work' list' : List ℕ) (tally' : Tally) (stop : ℕ) : Type 0 where
  pub state : state_of tally' work' stop list' ≡ walk p (order_in numbers p.variables) (at numbers LIMIT) (at numbers ROOM) ts (state_of tally work ALL list)
  pub summed : Summed tally'
  pub sets : (i : ℕ) → i < 16 * suc k → at stack' i ≡ at stack i
  pub values : (i : ℕ) → i < k → at work' i ≡ at work i
  pub marks : (i : ℕ) → MARKS ≤ i → i < 16 * suc (suc k) → at work' i ≡ at work i
  pub stack_length : length stack' ≡ length stack
  pub work_length : length work' ≡ length work
  pub memo : Remembers p (own_problem_in p numbers) (order_in numbers p.variables) work' list'

-- the nodes of the values m of variable k, after the prefix in `work`; that of the lowest of them, and it with the nodes below it
abbrev pub tried : Problem → List ℕ → ℕ → ℕ → List (List ℕ)
tried p work k m = nodes_for p (p.variables - (k + 1)) (prefix_of work k) m

abbrev pub lowest_node : List ℕ → ℕ → ℕ → List ℕ
lowest_node work k m = prefix_of work k ++ (lowest_of m ∷ [])

abbrev pub lowest_tried : Problem → List ℕ → ℕ → ℕ → List (List ℕ)
lowest_tried p work k m = lowest_node work k m ∷ nodes_below p (p.variables - (k + 1)) (lowest_node work k m)

-- the lowest value's node is made, but for its count: the answer is DEEPER where nodes are below it, which are not walked along yet
pub record Entered (p : Problem) (stack work supports tables numbers list : List ℕ) (tally : Tally) (k m : ℕ) (stack' work' list' : List ℕ) (step : ℕ) : Type 0 where
  pub walked : (step ≡ DEEPER → ⊥) → Walked p (lowest_tried p work k m) stack work numbers list tally k stack' work' list' (with_node (settling numbers k) tally) step
  pub next : step ≡ DEEPER → AtPrefix p stack' work' supports tables numbers list' (with_node (settling numbers k) tally) (k + 1)
  pub then : step ≡ DEEPER → (stack'' work'' list'' : List ℕ) (tally'' : Tally) (stop : ℕ) →
      Walked p (tried p work' (k + 1) (at stack' (DIAGONAL * (k + 1)))) stack' work' numbers list' (with_node (settling numbers k) tally) (k + 1) stack'' work'' list'' tally'' stop →
      Walked p (lowest_tried p work k m) stack work numbers list tally k stack'' work'' list'' tally'' stop
