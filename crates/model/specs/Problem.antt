-- The problem that a sheet states, its solutions, and the symmetries that respect it (paper 01, "Words").
use Rattle.std.specs.Prelude.{Bool, not, List, [], ◌∷◌, ◌++◌, map, ℕ, ◌+◌, ◌*◌, ◌/◌, ◌%◌, length, get_or, eqb, ltb}
use Rattle.model.specs.{Lists.all, Lists.any, Lists.keep, Lists.flat, Lists.below, Lists.at, Lists.same, Lists.both, ValueSets.has, ValueSets.members}

-- a constraint (the paper's rule): its scope, the paper's places of the rule, and its rows
pub record Constraint : Type 0 where
  pub scope : List ℕ
  pub rows : List (List ℕ)

-- variables are the paper's places, symmetries its exchanges: the image of each pair number in turn
pub record Problem : Type 0 where
  pub variables : ℕ
  pub values : ℕ
  pub initial : List ℕ
  pub constraints : List Constraint
  pub symmetries : List (List ℕ)

-- the constraint and the symmetry of a number
abbrev pub constraint_at : Problem → ℕ → Constraint
constraint_at p k = get_or p.constraints k (record { scope = []; rows = [] })

abbrev pub symmetry_at : Problem → ℕ → List ℕ
symmetry_at p e = get_or p.symmetries e []

-- the problem with other symmetries
abbrev pub with_symmetries : Problem → List (List ℕ) → Problem
with_symmetries p gs = record { variables = p.variables; values = p.values; initial = p.initial; constraints = p.constraints; symmetries = gs }

-- ---- solutions
-- the values that an assignment gives to a scope
unfoldable pub values_at : List ℕ → List ℕ → List ℕ
values_at a scope = map (at a) scope

-- the constraint has a row equal to the values of its scope
unfoldable pub satisfies : List ℕ → Constraint → Bool
satisfies a c = any (same (values_at a c.scope)) c.rows

-- one value of its initial set for each variable, and a row for each constraint
unfoldable pub is_solution : Problem → List ℕ → Bool
is_solution p a =
    both (eqb (length a) p.variables)
    (both (all (λ x. has (at p.initial x) (at a x)) (below p.variables))
    (all (satisfies a) p.constraints))

-- every way to draw one value from each set, in reading order
unfoldable pub assignments : List ℕ → List (List ℕ)
assignments [] = [] ∷ []
assignments (s ∷ ss) = let rest = assignments ss in flat (map (λ v. map (λ a. v ∷ a) rest) (members s))

-- ---- pairs and symmetries
-- the number of the pair of variable x and value v
unfoldable pub pair : Problem → ℕ → ℕ → ℕ
pair p x v = x * p.values + v

-- q is the number of a pair: a variable with a value of its initial set
unfoldable pub is_pair : Problem → ℕ → Bool
is_pair p q = both (ltb q (p.variables * p.values)) (has (at p.initial (q / p.values)) (q % p.values))

-- the pairs of an assignment
unfoldable pub pairs_of : Problem → List ℕ → List ℕ
pairs_of p a = map (λ x. pair p x (at a x)) (below p.variables)

-- each of xs is one of ys
unfoldable pub within : List ℕ → List ℕ → Bool
within xs ys = all (λ x. any (eqb x) ys) xs

-- g takes a to b: the images of a's pairs are b's pairs
unfoldable pub takes : Problem → List ℕ → List ℕ → List ℕ → Bool
takes p g a b =
    let images = map (at g) (pairs_of p a) in
    both (within images (pairs_of p b)) (within (pairs_of p b) images)

-- ---- forbidden sets
-- two pairs of one variable
unfoldable pub doubled : Problem → ℕ → List (List ℕ)
doubled p x = flat (map (λ v. map (λ w. pair p x v ∷ pair p x w ∷ []) (keep (ltb v) (members (at p.initial x)))) (members (at p.initial x)))

-- the pairs of a scope with the values of a row
unfoldable pub pairs_at : Problem → List ℕ → List ℕ → List ℕ
pairs_at p [] vs = []
pairs_at p (x ∷ xs) [] = []
pairs_at p (x ∷ xs) (v ∷ vs) = pair p x v ∷ pairs_at p xs vs

-- one pair for each variable of a constraint, whose values are no row of it
unfoldable pub excluded : Problem → Constraint → List (List ℕ)
excluded p c =
    let choices = assignments (map (at p.initial) c.scope) in
    map (pairs_at p c.scope) (keep (λ vs. not (any (same vs) c.rows)) choices)

unfoldable pub forbidden : Problem → List (List ℕ)
forbidden p = flat (map (doubled p) (below p.variables)) ++ flat (map (excluded p) p.constraints)

-- the image of every forbidden set contains a forbidden set
unfoldable pub respects : Problem → List ℕ → Bool
respects p g =
    let fs = forbidden p in
    all (λ f. let image = map (at g) f in any (λ h. within h image) fs) fs
