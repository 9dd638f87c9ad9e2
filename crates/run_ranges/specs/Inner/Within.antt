-- The nodes of a part below a prefix, as a search makes them.
use Rattle.std.specs.Prelude.{Bool, true, false, not, List, [], ◌∷◌, ◌++◌, ℕ, eqb, ltb}
use Rattle.model.specs.{Lists.both, Lists.any, Lists.keep, Problem.Problem, Search.nodes_below}
use Rattle.run_cut.specs.{Parts.after, Inner.Paths.nodes_of, Inner.Paths.candidates_at}

-- the nodes below a prefix, k variables left, that come after the prefix with one path behind it and not after it with another
unfoldable pub within : Problem → ℕ → List ℕ → List ℕ → List ℕ → List (List ℕ)
within p k prefix from upto = keep (λ t. both (after (prefix ++ from) t) (not (after (prefix ++ upto) t))) (nodes_below p k prefix)

abbrev pub given : Bool → List (List ℕ) → List (List ℕ)
given b l = elim b [ true ↦ l | false ↦ [] ]

-- the sets leave the variable behind the prefix this value
abbrev pub leaves : Problem → List ℕ → ℕ → Bool
leaves p prefix v = any (eqb v) (candidates_at p prefix)

-- those below one value
unfoldable pub into_nodes : Problem → ℕ → List ℕ → ℕ → List ℕ → List ℕ → List (List ℕ)
into_nodes p k prefix v from upto = given (leaves p prefix v) (within p k (prefix ++ (v ∷ [])) from upto)

-- one value's node, and those below it up to a path
unfoldable pub onto_nodes : Problem → ℕ → List ℕ → ℕ → List ℕ → List (List ℕ)
onto_nodes p k prefix v upto = given (leaves p prefix v) ((prefix ++ (v ∷ [])) ∷ within p k (prefix ++ (v ∷ [])) [] upto)

abbrev pub in_range : ℕ → ℕ → ℕ → Bool
in_range low high v = both (not (ltb v low)) (ltb v high)

-- those of the values from `low` up and below `high`
unfoldable pub mid_nodes : Problem → ℕ → List ℕ → ℕ → ℕ → List (List ℕ)
mid_nodes p k prefix low high = nodes_of p k prefix (keep (in_range low high) (candidates_at p prefix))

-- those of the values from `low` up that are not after the path v, upto
unfoldable pub up_to_nodes : Problem → ℕ → List ℕ → ℕ → ℕ → List ℕ → List (List ℕ)
up_to_nodes p k prefix low v upto = mid_nodes p k prefix low v ++ onto_nodes p k prefix v upto
