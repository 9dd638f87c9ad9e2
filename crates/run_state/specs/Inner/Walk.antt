-- A run as a walk along a list of nodes (paper 01, "The search"): what each node does to the tally and to the caller's list.
-- The search goes down the tree and takes one step for each node; proofs/Walk has the laws that join the steps, and proofs/Outcome says that
-- the walk along all nodes of the tree is the run of model's `search`.
use Rattle.std.specs.Prelude.{◌≡◌, List, [], ◌∷◌, ◌++◌, map, ℕ, suc, ◌+◌, ◌*◌, length, take, set, replicate, leb, eqb}
use Rattle.model.specs.Run.{Ending, finished, spent, full, written, Tally, settled_by, counts_by}
use Rattle.model.specs.{Written.placed, Lists.flat, Lists.choose, Lists.at, Lists.total, ValueSets.members, Problem.Problem, Search.is_plan, Search.nodes_below}
use Rattle.order.specs.Reordered.{write}
use Rattle.arrays.specs.Inner.Places.{ALL, SPENT, FULL}

-- one node more, which settles variable x
abbrev pub with_node : ℕ → Tally → Tally
with_node x t = record { nodes = t.nodes + 1; counts = set t.counts x (at t.counts x + 1) }

-- nothing counted
abbrev pub no_nodes : Tally
no_nodes = record { nodes = 0; counts = replicate 12 0 }

-- twelve counts, which add up to the nodes: so it is at every moment of a run (paper 02, #107)
pub record Summed (t : Tally) : Type 0 where
  pub twelve : length t.counts ≡ 12
  pub sum : total t.counts ≡ t.nodes

-- how far a run has come: the tally, the plans listed, ALL while it goes on, SPENT and FULL once it is, the list, and the last node made
pub record State : Type 0 where
  pub tally : Tally
  pub plans : ℕ
  pub stop : ℕ
  pub list : List ℕ
  pub last : List ℕ

-- the list with a row written over its bytes from i on; a list of no byte stays as it is: its run counts plans alone
unfoldable pub noted : ℕ → List ℕ → List ℕ → List ℕ
noted i row list = choose (eqb (length list) 0) list (placed list i row)

-- and so of all rows at its front
unfoldable pub all_noted : List (List ℕ) → List ℕ → List ℕ
all_noted rows list = choose (eqb (length list) 0) list (written rows list)

-- a plan of n bytes was found: full where there is room for no plan more, else it is listed
unfoldable pub listed : ℕ → ℕ → List ℕ → State → State
listed n room row s =
    choose (leb (suc s.plans) room)
    (record { tally = s.tally; plans = suc s.plans; stop = ALL; list = noted (s.plans * n) row s.list; last = s.last })
    (record { tally = s.tally; plans = s.plans; stop = FULL; list = s.list; last = s.last })

-- node t is made, which settles variable x
abbrev pub counted : ℕ → List ℕ → State → State
counted x t s = record { tally = with_node x s.tally; plans = s.plans; stop = ALL; list = s.list; last = t }

abbrev pub exhausted : State → State
exhausted s = record { tally = s.tally; plans = s.plans; stop = SPENT; list = s.list; last = s.last }

-- one node: nothing once the run has stopped; spent where the nodes made equal the limit; else one node more, and a plan is listed.
-- p's variables are a sheet's in an order: a node that settles p's variable j is counted as one of variable order[j], and a plan is written by
-- variable number
unfoldable pub visit : Problem → List ℕ → ℕ → ℕ → List ℕ → State → State
visit p order limit room t s =
    let s' = counted (at order (settled_by t)) t s in
    choose (eqb s.stop ALL)
    (choose (eqb s.tally.nodes limit) (exhausted s)
    (choose (is_plan p t) (listed p.variables room (write order t) s') s'))
    s

unfoldable pub walk : Problem → List ℕ → ℕ → ℕ → List (List ℕ) → State → State
walk p order limit room [] s = s
walk p order limit room (t ∷ ts) s = walk p order limit room ts (visit p order limit room t s)

-- the nodes of the values in a set, k variables left to settle after this one: for each value its node and the nodes below
unfoldable pub nodes_for : Problem → ℕ → List ℕ → ℕ → List (List ℕ)
nodes_for p k prefix set = flat (map (λ v. (prefix ++ (v ∷ [])) ∷ nodes_below p k (prefix ++ (v ∷ []))) (members set))

-- how a run stopped that ended so
abbrev pub stop_in : Ending → ℕ
stop_in (finished plans made) = ALL
stop_in (spent plans made) = SPENT
stop_in (full plans made) = FULL

-- the first k of some nodes, counted in an order
unfoldable pub tally_by : List ℕ → List (List ℕ) → ℕ → Tally
tally_by order ts k = record { nodes = k; counts = counts_by (λ t. at order (settled_by t)) (take k ts) }
