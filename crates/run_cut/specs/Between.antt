-- The nodes between two paths, and the tree cut at paths; a run cut after some nodes and gone on with.
use Rattle.std.specs.Prelude.{not, List, [], ◌∷◌, ℕ, take, T}
use Rattle.model.specs.{Lists.keep, Lists.both, Problem.Problem, Search.nodes, Run.Ending, Run.finished, Run.spent, Run.full, Run.Result, Run.settled_by, Run.counts_by}
use Rattle.run_cut.specs.Parts.{after, nodes_after, last_of, go_on}

-- the nodes that come after one path and not after another
unfoldable pub nodes_between : Problem → List ℕ → List ℕ → List (List ℕ)
nodes_between p from upto = keep (λ t. both (after from t) (not (after upto t))) (nodes p)

-- the tree cut at paths: the nodes from a path up to the first cut, from each cut up to the next, and after the last
unfoldable pub ranges : Problem → List ℕ → List (List ℕ) → List (List (List ℕ))
ranges p from [] = nodes_after p from ∷ []
ranges p from (cut ∷ cuts) = nodes_between p from cut ∷ ranges p cut cuts

-- no cut comes before the one in front of it
abbrev pub Cuts : List ℕ → List (List ℕ) → Type 0
Cuts from [] = Unit {0}
Cuts from (cut ∷ cuts) = (T (after cut from) → ⊥) × Cuts cut cuts

-- after a part that was spent comes the next one; another one was the end
abbrev pub and_next : Ending → Result → Result → Result
and_next (finished plans made) r next = r
and_next (full plans made) r next = r
and_next (spent plans made) r next = next

-- a run that was spent goes on from its last node; another one has ended
abbrev pub resumed : Problem → ℕ → ℕ → Ending → List (List ℕ) → Result
resumed p limit room (finished plans made) rows = record { ending = finished plans made; rows = rows }
resumed p limit room (full plans made) rows = record { ending = full plans made; rows = rows }
resumed p limit room (spent plans made) rows =
    go_on p limit room record { made = made; counts = counts_by settled_by (take made (nodes p)); rows = rows; last = last_of [] (take made (nodes p)) }
