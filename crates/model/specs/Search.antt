-- The nogoods of a symmetry at a prefix, the sets at a prefix, and the tree as the list of its nodes (paper 01, "The search").
-- A prefix is the list of the values of variables 0 to k - 1.
use Rattle.std.specs.Prelude.{Bool, true, false, not, List, [], ◌∷◌, ◌++◌, map, ℕ, zero, suc, ◌*◌, ◌/◌, ◌%◌, length, eqb, ltb}
use Rattle.model.specs.{Lists.all, Lists.any, Lists.keep, Lists.flat, Lists.below, Lists.at, Lists.same, Lists.both, Lists.tabulate, ValueSets.has, ValueSets.mask_of, ValueSets.members}
use Rattle.model.specs.{ValueSets.any_empty, Problem.Problem, Problem.Constraint, Problem.pair, Nogood.Entry, Nogood.equality, Nogood.disequality, Nogood.filtered}

-- the entries that variable j, which has value u, adds to a symmetry's list: "not the image of (j, v)" for every smaller v of j's initial set,
-- then the image of its own pair as an equality
abbrev pub entries_of : Problem → List ℕ → ℕ → ℕ → List Entry
entries_of p g j u =
    let image : ℕ → ℕ = λ v. at g (pair p j v) in
    map (λ v. disequality (image v / p.values) (image v % p.values)) (keep (λ v. ltb v u) (members (at p.initial j)))
    ++ (equality (image u / p.values) (image u % p.values) ∷ [])

-- those of variable j of a prefix
unfoldable pub entries_at : Problem → List ℕ → List ℕ → ℕ → List Entry
entries_at p g prefix j = entries_of p g j (at prefix j)

-- the nogoods of a symmetry at a prefix, one list
unfoldable pub nogoods_of : Problem → List ℕ → List ℕ → List Entry
nogoods_of p g prefix = flat (map (entries_at p g prefix) (below (length prefix)))

-- a row inside the sets, with v at variable x
unfoldable pub row_with : List ℕ → ℕ → ℕ → List ℕ → List ℕ → Bool
row_with ds x v [] [] = true
row_with ds x v [] (w ∷ ws) = false
row_with ds x v (y ∷ ys) [] = false
row_with ds x v (y ∷ ys) (w ∷ ws) = both (has (at ds y) w) (both (elim (eqb x y) [ true ↦ eqb v w | false ↦ true ]) (row_with ds x v ys ws))

-- v has a row of the constraint inside the sets, where x is one of its variables
unfoldable pub supported : List ℕ → ℕ → ℕ → Constraint → Bool
supported ds x v c = elim (any (eqb x) c.scope) [ true ↦ any (row_with ds x v c.scope) c.rows | false ↦ true ]

-- what the filter of every symmetry's list leaves
abbrev pub left_by : Problem → List ℕ → List ℕ → List (List ℕ)
left_by p prefix ds = map (λ g. filtered ds (nogoods_of p g prefix)) p.symmetries

-- one round, where `left` is what the filters leave: the values that have a row of every constraint, and that every filter leaves
abbrev pub kept_by : Problem → List ℕ → List (List ℕ) → ℕ → ℕ → Bool
kept_by p ds left x v = both (has (at ds x) v) (both (all (supported ds x v) p.constraints) (all (λ f. has (at f x) v) left))

unfoldable pub pruned : Problem → List ℕ → List ℕ → List ℕ
pruned p prefix ds = let left = left_by p prefix ds in tabulate p.variables (λ x. mask_of (kept_by p ds left x))

-- the sets with the variables of the prefix fixed
unfoldable pub narrowed : List ℕ → List ℕ → List ℕ
narrowed [] ds = ds
narrowed (v ∷ vs) [] = []
narrowed (v ∷ vs) (s ∷ ss) = mask_of (λ w. both (eqb w v) (has s w)) ∷ narrowed vs ss

-- rounds until one changes nothing, at most k
unfoldable pub rounds : Problem → List ℕ → ℕ → List ℕ → List ℕ
rounds p prefix zero ds = ds
rounds p prefix (suc k) ds =
    let next = pruned p prefix ds in
    elim (same ds next) [ true ↦ ds | false ↦ rounds p prefix k next ]

-- each round but the last takes a value away, so as many rounds as there are values are enough
abbrev pub rounds_enough : Problem → ℕ
rounds_enough p = p.variables * 16

-- the largest sets that a round leaves as they are, with the variables of the prefix fixed (proofs/Prune, `largest`)
abbrev pub largest_at : Problem → List ℕ → List ℕ
largest_at p prefix = rounds p prefix (rounds_enough p) (narrowed prefix p.initial)

-- the sets at a prefix: these; if one is empty, all are
unfoldable pub sets_at : Problem → List ℕ → List ℕ
sets_at p prefix = let ds = largest_at p prefix in elim (any_empty ds) [ true ↦ map (λ s. 0) ds | false ↦ ds ]

-- the prefix is not dead
unfoldable pub is_live : Problem → List ℕ → Bool
is_live p prefix = not (any_empty (sets_at p prefix))

-- the nodes below a prefix, k variables left to settle (a node is the paper's trial), in the order of the search
unfoldable pub nodes_below : Problem → ℕ → List ℕ → List (List ℕ)
nodes_below p zero prefix = []
nodes_below p (suc k) prefix = flat (map (λ v. (prefix ++ (v ∷ [])) ∷ nodes_below p k (prefix ++ (v ∷ []))) (members (at (sets_at p prefix) (length prefix))))

unfoldable pub nodes : Problem → List (List ℕ)
nodes p = nodes_below p p.variables []

-- a live prefix of all variables
unfoldable pub is_plan : Problem → List ℕ → Bool
is_plan p node = both (eqb (length node) p.variables) (is_live p node)
