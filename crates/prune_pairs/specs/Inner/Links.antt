-- Pruning by the constraints on two variables, by variable: what the crate's function asks and leaves.
use Rattle.std.specs.Prelude.{◌≡◌, false, List, ℕ, ◌<◌, T, Option, MatchOption}
use Rattle.model.specs.{Lists.at, ValueSets.has, ValueSets.Inside, Problem.Problem, Inner.Pruning.Sets, Inner.WellFormed.WellFormed}
use Rattle.arrays.specs.{Inner.Tables.Linked, Inner.Tables.Rows, Inner.Pruning.Given, Inner.Pruning.Lessened, Inner.Pruning.Ended, Inner.Pruning.Arc}
use Rattle.arrays.specs.Inner.Pruning.{sets_of}

-- only the variables of `dirty` may have a set that refuses a value of another
pub record ArcsPending (p : Problem) (numbers tables sets : List ℕ) (dirty : ℕ) : Type 0 where
  pub given : Given p sets
  pub well_formed : WellFormed p
  pub linked : Linked p numbers
  pub rowed : Rows p tables
  pub known : (x : ℕ) → T (has dirty x) → x < p.variables
  pub arcs : (x : ℕ) → x < p.variables → has dirty x ≡ false → Arc p (sets_of p sets) x

-- the variables below `low` are settled: none is dirty, and each set has one value
pub record Settled (sets : List ℕ) (dirty low : ℕ) : Type 0 where
  pub clean : (y : ℕ) → y < low → has dirty y ≡ false
  pub single : (y : ℕ) → y < low → (u v : ℕ) → T (has (at sets y) u) → T (has (at sets y) v) → u ≡ v

-- a dead end; which values are gone is open, but no set has gained one
pub record Dead (p : Problem) (sets sets' : List ℕ) : Type 0 where
  pub ended : Ended p sets
  pub sixteen : Sets 16 sets'
  pub less : Inside sets' sets

-- no set refuses a value of another, and r has the variables whose sets changed
pub record ArcsLeft (p : Problem) (sets sets' : List ℕ) (r : ℕ) : Type 0 where
  pub lessened : Lessened p sets sets' r
  pub arcs : (x : ℕ) → x < p.variables → Arc p (sets_of p sets') x

-- the answer is None at a dead end, else the variables whose sets changed
abbrev pub ArcsMade : Problem → List ℕ → List ℕ → Option ℕ → Type 0
ArcsMade p sets sets' r = MatchOption r (Dead p sets sets') (ArcsLeft p sets sets')
