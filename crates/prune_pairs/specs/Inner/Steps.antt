-- What the functions inside this crate say to each other: the cover of a variable's set, and one cut by it.
use Rattle.std.specs.Prelude.{◌≡◌, false, ◌⊎◌, List, ℕ, ◌+◌, ◌*◌, ◌^◌, ◌<◌, T, length, Option, MatchOption}
use Rattle.model.specs.Kit.{bit_and, bit_or}
use Rattle.model.specs.{Lists.at, Lists.either, ValueSets.has, Problem.Problem, Inner.Pruning.Sets, Inner.WellFormed.WellFormed}
use Rattle.arrays.specs.{Inner.Tables.goes, Inner.Tables.Rows, Inner.Pruning.Given, Inner.Pruning.Lessened, Inner.Pruning.Arc}
use Rattle.arrays.specs.Inner.Pruning.{sets_of}
use Rattle.prune_pairs.specs.Inner.Links.{Dead}

-- the table has w among the values of y that go with x's value v
abbrev pub Goes : List ℕ → ℕ → ℕ → ℕ → ℕ → Type 0
Goes tables x v y w = T (has (at tables (256 * x + 16 * v + y)) w)

-- k numbers of the tables from a base on are sets of sixteen values
abbrev pub Narrow : List ℕ → ℕ → ℕ → Type 0
Narrow tables base k = (i : ℕ) → i < k → at tables (base + i) < 2 ^ 16

-- sixteen sets of the tables, from a base on, were added to the sets
pub record Added (cover tables : List ℕ) (base : ℕ) (cover' : List ℕ) : Type 0 where
  pub sets : Sets 16 cover'
  pub each : (y : ℕ) → y < 16 → at cover' y ≡ bit_or (at cover y) (at tables (base + y))

-- sixteen sets: the values that go with some value of x's set
pub record Cover (tables : List ℕ) (x set : ℕ) (cover : List ℕ) : Type 0 where
  pub sets : Sets 16 cover
  pub cover_i : (v y w : ℕ) → y < 16 → T (has set v) → Goes tables x v y w → T (has (at cover y) w)
  pub cover_e : (y w : ℕ) → y < 16 → T (has (at cover y) w) → (v : ℕ) × T (has set v) × Goes tables x v y w

-- every value of the sets is in the cover
abbrev pub Covered : List ℕ → List ℕ → Type 0
Covered sets cover = (y w : ℕ) → T (has (at sets y) w) → T (has (at cover y) w)

-- the cut down to the cover takes nothing from the sets below `low`
abbrev pub Spared : List ℕ → List ℕ → ℕ → Type 0
Spared sets cover low = (y : ℕ) → y < low → y < 12 → bit_and (at sets y) (at cover y) ≡ at sets y

-- sixteen sets, each cut down to the cover or as it came
pub record CutOrKept (sets cover sets' : List ℕ) : Type 0 where
  pub sized : length sets' ≡ 16
  pub each : (y : ℕ) → (at sets' y ≡ bit_and (at sets y) (at cover y)) ⊎ (at sets' y ≡ at sets y)

-- some of the first twelve sets were cut, and of one the cover leaves nothing
pub record CutDead (sets cover sets' : List ℕ) : Type 0 where
  pub dead : (y : ℕ) × (y < 12) × (bit_and (at sets y) (at cover y) ≡ 0) × (at sets y ≡ 0 → ⊥)
  pub so_far : CutOrKept sets cover sets'

-- the first twelve sets were cut, and r has those that changed
pub record CutDown (sets cover sets' : List ℕ) (r : ℕ) : Type 0 where
  pub so_far : CutOrKept sets cover sets'
  pub cut : (y : ℕ) → y < 12 → at sets' y ≡ bit_and (at sets y) (at cover y)
  pub kept : (y : ℕ) → has r y ≡ false → at sets' y ≡ at sets y
  pub changed : (y : ℕ) → T (has r y) → (y < 12) × (at sets' y ≡ at sets y → ⊥) × (at sets' y ≡ 0 → ⊥)

-- the first twelve sets were cut down to the cover: the answer is None where nothing is left of one, and then some are cut; else the sets that changed
abbrev pub CutToCover : List ℕ → List ℕ → List ℕ → Option ℕ → Type 0
CutToCover sets cover sets' r = MatchOption r (CutDead sets cover sets') (CutDown sets cover sets')

-- of a loose variable's values no two refuse the same value of another variable
abbrev pub Loose : Problem → ℕ → ℕ → Type 0
Loose p loose x =
    (u v y w : ℕ) → T (has loose x) → T (has (at p.initial x) u) → T (has (at p.initial x) v) → (u ≡ v → ⊥) →
    T (has (at p.initial y) w) → T (either (goes p x u y w) (goes p x v y w))

-- ready to cut by the set of x, whose values go together with those of the variables below `low`
pub record CanCut (p : Problem) (tables sets : List ℕ) (loose x low : ℕ) : Type 0 where
  pub given : Given p sets
  pub well_formed : WellFormed p
  pub rowed : Rows p tables
  pub loosely : Loose p loose x
  pub known : x < p.variables
  pub settled : (v y w : ℕ) → y < low → y < p.variables → T (has (at sets x) v) → T (has (at sets y) w) → T (goes p x v y w)

-- no set refuses a value of x's, and r has the variables whose sets changed
pub record ArcLeft (p : Problem) (sets sets' : List ℕ) (x r : ℕ) : Type 0 where
  pub lessened : Lessened p sets sets' r
  pub changed : (y : ℕ) → T (has r y) → at sets' y ≡ at sets y → ⊥
  pub arc : Arc p (sets_of p sets') x

-- cut by the set of x: the answer is None at a dead end, else the variables whose sets changed
abbrev pub CutBy : Problem → List ℕ → List ℕ → ℕ → Option ℕ → Type 0
CutBy p sets sets' x r = MatchOption r (Dead p sets sets') (ArcLeft p sets sets' x)
