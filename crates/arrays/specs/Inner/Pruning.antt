-- What the parts of pruning say of sixteen sets at hand, of which the first are those of p's variables.
use Rattle.std.specs.Prelude.{◌≡◌, false, List, ℕ, ◌<◌, T, take}
use Rattle.model.specs.{Lists.at, ValueSets.has, ValueSets.any_empty, ValueSets.Inside, Problem.Problem, Problem.Constraint, Search.supported, Inner.Pruning.Sets}
use Rattle.model.specs.Inner.Pruning.{Prunes}
use Rattle.arrays.specs.Inner.Tables.{goes}

-- the sets of p's variables among the sixteen
abbrev pub sets_of : Problem → List ℕ → List ℕ
sets_of p sets = take p.variables sets

-- the sets may be pruned: none of p's is empty, and all are inside the initial ones
pub record Given (p : Problem) (sets : List ℕ) : Type 0 where
  pub sixteen : Sets 16 sets
  pub full : any_empty (sets_of p sets) ≡ false
  pub inside : Inside (sets_of p sets) p.initial

-- the sets after some pruning: only values went that a round takes too, at any prefix; all that changed are in `changed`; none is empty
pub record Lessened (p : Problem) (sets sets' : List ℕ) (changed : ℕ) : Type 0 where
  pub ways : (prefix : List ℕ) → Prunes p prefix (sets_of p sets) (sets_of p sets')
  pub sixteen : Sets 16 sets'
  pub full : any_empty (sets_of p sets') ≡ false
  pub less : Inside sets' sets
  pub kept : (x : ℕ) → has changed x ≡ false → at sets' x ≡ at sets x
  pub few : (x : ℕ) → T (has changed x) → x < p.variables

-- a dead end: values that a round takes too went, and a set is empty
abbrev pub Ended : Problem → List ℕ → Type 0
Ended p sets = (es : List ℕ) × (((prefix : List ℕ) → Prunes p prefix (sets_of p sets) es) × T (any_empty es))

-- the constraint takes nothing from the sets
abbrev pub Fixed : List ℕ → Constraint → Type 0
Fixed ds c = (x v : ℕ) → T (has (at ds x) v) → T (supported ds x v c)

-- every value of every set goes together with a value of x's set
abbrev pub Arc : Problem → List ℕ → ℕ → Type 0
Arc p ds x = (y w : ℕ) → T (has (at ds y) w) → (v : ℕ) × (T (has (at ds x) v) × T (goes p x v y w))
