-- The nodes of the tree by their paths.
use Rattle.std.specs.Prelude.{Bool, true, List, [], ◌∷◌, ◌++◌, map, ℕ, length, eqb}
use Rattle.model.specs.{Lists.any, Lists.flat, Lists.at, Lists.both, ValueSets.members, Problem.Problem, Search.sets_at, Search.nodes_below}

-- the nodes of some values of the variable behind a prefix, k variables left to settle after it
unfoldable pub nodes_of : Problem → ℕ → List ℕ → List ℕ → List (List ℕ)
nodes_of p k prefix vs = flat (map (λ v. (prefix ++ (v ∷ [])) ∷ nodes_below p k (prefix ++ (v ∷ []))) vs)

-- the values that the sets at a prefix leave its next variable
abbrev pub candidates_at : Problem → List ℕ → List ℕ
candidates_at p prefix = members (at (sets_at p prefix) (length prefix))

-- each value of the path, behind the prefix, is one that the sets leave
unfoldable pub reached : Problem → List ℕ → List ℕ → Bool
reached p prefix [] = true
reached p prefix (v ∷ path) = both (any (eqb v) (candidates_at p prefix)) (reached p (prefix ++ (v ∷ [])) path)
