-- A problem with its variables in another order: variable i of `reordered order p` is variable order[i] of p (paper 02, request 108).
-- Prefixes, nodes, sets and counts of a run that is lent pairs are those of the reordered problem; rows are written by place number.
use Rattle.std.specs.Prelude.{Bool, List, map, ℕ, ◌*◌, ◌/◌, ◌%◌, length, eqb}
use Rattle.model.specs.{Lists.any, Lists.keep, Lists.below, Lists.at, Lists.earlier, ValueSets.least, Problem.Problem, Problem.Constraint, Problem.pair}

-- where x stands in a list: the first index (the length where it does not stand there)
unfoldable pub position : List ℕ → ℕ → ℕ
position l x = least (length l) (λ i. eqb (at l i) x)

-- ---- rows of all variables
-- a row by place number, read in the order
unfoldable pub read : List ℕ → List ℕ → List ℕ
read order a = map (at a) order

-- a row in the order, written by place number
unfoldable pub write : List ℕ → List ℕ → List ℕ
write order r = map (λ x. at r (position order x)) (below (length order))

-- a reads earlier than b in the order
abbrev pub earlier_by : List ℕ → List ℕ → List ℕ → Bool
earlier_by order a b = earlier (read order a) (read order b)

-- ---- the problem
-- the value that a row of a scope gives to one of its variables
unfoldable pub value_of : List ℕ → List ℕ → ℕ → ℕ
value_of scope row x = at row (position scope x)

-- the positions of a scope's variables, ascending
unfoldable pub scope_in : List ℕ → List ℕ → List ℕ
scope_in order scope = keep (λ i. any (eqb (at order i)) scope) (below (length order))

-- a row of the scope: at each of those positions the value of the variable that stands there
unfoldable pub row_in : List ℕ → List ℕ → List ℕ → List ℕ
row_in order scope row = map (λ i. value_of scope row (at order i)) (scope_in order scope)

abbrev pub constraint_in : List ℕ → Constraint → Constraint
constraint_in order c = record { scope = scope_in order c.scope; rows = map (row_in order c.scope) c.rows }

-- a pair's number with its variable renamed
unfoldable pub renamed : Problem → (ℕ → ℕ) → ℕ → ℕ
renamed p name q = pair p (name (q / p.values)) (q % p.values)

-- pair (i, v) goes to the image of (order[i], v), the image's variable named by its position
unfoldable pub symmetry_in : List ℕ → Problem → List ℕ → List ℕ
symmetry_in order p g = map (λ q. renamed p (position order) (at g (renamed p (at order) q))) (below (p.variables * p.values))

abbrev pub reordered : List ℕ → Problem → Problem
reordered order p =
    record {
      variables = p.variables;
      values = p.values;
      initial = read order p.initial;
      constraints = map (constraint_in order) p.constraints;
      symmetries = map (symmetry_in order p) p.symmetries;
    }
