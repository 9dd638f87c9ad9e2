-- Lists of sets, and what pruning in any order says of them.
use Rattle.std.specs.Prelude.{◌≡◌, List, ℕ, ◌^◌, ◌<◌, length}
use Rattle.model.specs.{Lists.at, ValueSets.Inside, Problem.Problem, Search.pruned, Search.narrowed, Search.largest_at}

-- n sets, each of sixteen bits
abbrev pub Sets : ℕ → List ℕ → Type 0
Sets n ds = (length ds ≡ n) × ((x : ℕ) → at ds x < 2 ^ 16)

-- the sets at a prefix, before the rule that one empty set empties all
abbrev pub closed : Problem → List ℕ → List ℕ
closed p prefix = largest_at p prefix

-- sets on the way from the given ones to those
pub record Way (p : Problem) (prefix es : List ℕ) : Type 0 where
  pub sets : Sets p.variables es
  pub inside : Inside es (narrowed prefix p.initial)
  pub over : Inside (closed p prefix) es

-- a step of pruning, wherever it starts: es lies inside ds, and all sets inside ds that a round leaves as they are lie in es too
pub record Prunes (p : Problem) (prefix ds es : List ℕ) : Type 0 where
  pub sets : Sets p.variables ds → Sets p.variables es
  pub less : Inside es ds
  pub keeps : Sets p.variables ds → (cs : List ℕ) → length cs ≡ p.variables → pruned p prefix cs ≡ cs → Inside cs ds → Inside cs es
