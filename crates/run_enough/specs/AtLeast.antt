-- Paper 02, #101: are there at least m plans? The answer, from the tree's nodes.
-- What a caller is told is in specs/Lent, what it is good for in promises' `EnoughCalls`.
use Rattle.std.specs.Prelude.{true, false, ℕ, length, leb}
use Rattle.model.specs.{ValueSets.least, Problem.Problem, Search.nodes, Claims.plans_among}

-- the paper's yes, no and spent; each carries the plans found and the nodes made (the trial figure)
pub data Enough : Type 0 where
  enough : ℕ → ℕ → Enough
  too_few : ℕ → ℕ → Enough
  unknown : ℕ → ℕ → Enough

-- the number of nodes up to the m-th plan: the first that m plans are among
unfoldable pub nodes_to : Problem → ℕ → ℕ
nodes_to p m = least (length (nodes p)) (λ k. leb m (plans_among p k))

-- yes, at the m-th plan, where the nodes that the limit allows hold m plans; else no, where no further node is due; else spent
unfoldable pub enough_of : Problem → ℕ → ℕ → Enough
enough_of p limit m =
    elim (leb m (plans_among p limit)) [
      | true ↦ enough m (nodes_to p m)
      | false ↦ elim (leb (length (nodes p)) limit) [ true ↦ too_few (plans_among p limit) (length (nodes p)) | false ↦ unknown (plans_among p limit) limit ]
    ]
