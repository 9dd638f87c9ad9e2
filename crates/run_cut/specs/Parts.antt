-- A run in parts (paper 02, #113): the order in which the search makes its nodes, the nodes that come after a path, and a run that goes on from the last node made.
-- A path is a list of values, as a node is; the empty path is where a run starts.
use Rattle.std.specs.Prelude.{Bool, true, false, List, [], ◌∷◌, ℕ, ◌+◌, ◌-◌, take, replicate, eqb, ltb}
use Rattle.model.specs.{Lists.keep, Lists.at, Lists.tabulate, Problem.Problem, Search.nodes, Search.is_plan, Run.nodes_in, Run.Result, Run.search, Run.settled_by, Run.counts_by}

-- ---- the order of the search
-- t comes after the path: the path is a proper first part of t, or t has the larger value at the first difference
unfoldable pub after : List ℕ → List ℕ → Bool
after [] [] = false
after [] (v ∷ t) = true
after (u ∷ path) [] = false
after (u ∷ path) (v ∷ t) = elim (eqb u v) [ true ↦ after path t | false ↦ ltb u v ]

-- the nodes that come after a path
unfoldable pub nodes_after : Problem → List ℕ → List (List ℕ)
nodes_after p path = keep (after path) (nodes p)

-- ---- a run in parts
-- the last of the nodes, or the path in front of them where there are none
unfoldable pub last_of : List ℕ → List (List ℕ) → List ℕ
last_of path [] = path
last_of path (t ∷ ts) = last_of t ts

-- what is carried from one part of a run to the next: the nodes made, and of these the nodes that settle each of twelve variables, the plans listed, and the
-- last node made
pub record Progress : Type 0 where
  pub made : ℕ
  pub counts : List ℕ
  pub rows : List (List ℕ)
  pub last : List ℕ

-- before the first node
abbrev pub start : Progress
start = record { made = 0; counts = replicate 12 0; rows = []; last = [] }

-- a run after its first k nodes
abbrev pub progress_at : Problem → ℕ → Progress
progress_at p k =
    record { made = k; counts = counts_by settled_by (take k (nodes p)); rows = keep (is_plan p) (take k (nodes p)); last = last_of [] (take k (nodes p)) }

-- the rest of a run, from where it stands
unfoldable pub go_on : Problem → ℕ → ℕ → Progress → Result
go_on p limit room s = search p limit room (nodes_after p s.last) s.made s.rows

-- the nodes made in it
abbrev pub made_in : Problem → Progress → Result → List (List ℕ)
made_in p s r = take (nodes_in r.ending - s.made) (nodes_after p s.last)

-- the last node made then
abbrev pub last_after : Problem → Progress → Result → List ℕ
last_after p s r = last_of s.last (made_in p s r)

-- twelve counts and twelve more, place by place
unfoldable pub added : List ℕ → List ℕ → List ℕ
added xs ys = tabulate 12 (λ x. at xs x + at ys x)

abbrev pub counts_after : Problem → Progress → Result → List ℕ
counts_after p s r = added s.counts (counts_by settled_by (made_in p s r))

-- where it stands then
abbrev pub progress_after : Problem → Progress → Result → Progress
progress_after p s r = record { made = nodes_in r.ending; counts = counts_after p s r; rows = r.rows; last = last_after p s r }
