-- What a walk along nodes comes to where neither limit nor room stops it, and with what was found below another prefix.
use Rattle.std.specs.Prelude.{◌≡◌, List, [], ◌∷◌, map, ℕ, suc, ◌+◌, ◌*◌, ◌≤◌, length}
use Rattle.model.specs.{Lists.at, Lists.keep, Lists.tabulate, Problem.Problem, Search.nodes_below, Search.is_plan, Run.settled_by, Run.counts_by}
use Rattle.order.specs.Reordered.{write}
use Rattle.arrays.specs.Inner.Places.{ALL}
use Rattle.run_cut.specs.Parts.{last_of}
use Rattle.run_state.specs.Inner.Walk.{State, noted, walk}
use Rattle.run_alike.specs.{Inner.Alike.moved, Inner.Claims.SameBelow}

-- twelve counts and twelve more
unfoldable pub plus : List ℕ → List ℕ → List ℕ
plus cs ds = tabulate 12 (λ x. at cs x + at ds x)

-- rows of n bytes noted one behind the other, the first as number i
unfoldable pub noted_all : ℕ → ℕ → List (List ℕ) → List ℕ → List ℕ
noted_all n i [] list = list
noted_all n i (row ∷ rows) list = noted_all n (suc i) rows (noted (i * n) row list)

-- so many nodes more, with their counts, their plans and the last of them
abbrev pub passed : Problem → List ℕ → ℕ → List ℕ → List (List ℕ) → List ℕ → State → State
passed p order made counts plans last s = record {
  tally = record { nodes = s.tally.nodes + made; counts = plus s.tally.counts counts };
  plans = s.plans + length plans;
  stop = ALL;
  list = noted_all p.variables s.plans (map (write order) plans) s.list;
  last = last;
}

-- a walk along nodes that limit and room allow
abbrev pub WalkOver : Type 0
WalkOver =
    (p : Problem) (order : List ℕ) (limit room : ℕ) (ts : List (List ℕ)) (s : State) → s.stop ≡ ALL → length s.tally.counts ≡ 12 →
    s.tally.nodes + length ts ≤ limit → s.plans + length (keep (is_plan p) ts) ≤ room →
    walk p order limit room ts s ≡ passed p order (length ts) (counts_by (λ t. at order (settled_by t)) ts) (keep (is_plan p) ts) (last_of s.last ts) s

-- and along the nodes below a, with what was found below b
abbrev pub WalkBy : Type 0
WalkBy =
    (p : Problem) (order : List ℕ) (limit room m : ℕ) (a b : List ℕ) (s : State) → SameBelow p m a b → s.stop ≡ ALL → length s.tally.counts ≡ 12 →
    s.tally.nodes + length (nodes_below p m b) ≤ limit → s.plans + length (keep (is_plan p) (nodes_below p m b)) ≤ room →
    walk p order limit room (nodes_below p m a) s
    ≡ passed p order (length (nodes_below p m b)) (counts_by (λ t. at order (settled_by t)) (nodes_below p m b)) (map (moved a) (keep (is_plan p) (nodes_below p m b)))
    (last_of s.last (map (moved a) (nodes_below p m b))) s

-- the last of some nodes, moved
abbrev pub LastMoved : Type 0
LastMoved = (path a t : List ℕ) (ts : List (List ℕ)) → last_of path (map (moved a) (t ∷ ts)) ≡ moved a (last_of t ts)
