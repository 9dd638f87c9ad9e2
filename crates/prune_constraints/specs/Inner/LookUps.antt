-- Constraints on three variables whose first two sets have one value each, the first that of the prefix in `work`, the second the same for all: what the
-- functions that look the third up ask and leave.
use Rattle.std.specs.Prelude.{◌≡◌, List, ℕ, ◌-◌, ◌^◌, ◌<◌, T, length, Option, MatchOption}
use Rattle.model.specs.Kit.{bit_and, bit_or}
use Rattle.model.specs.{Lists.at, ValueSets.has, Problem.Problem, Problem.constraint_at}
use Rattle.arrays.specs.Inner.Pruning.{Lessened}
use Rattle.prune_constraints.specs.{Inner.Revised.ConstraintsPending, Inner.Revised.Dead, Inner.Steps.OneValue, Inner.Steps.Touched}

-- the set of v alone
abbrev pub Alone : ℕ → ℕ → Type 0
Alone a v = OneValue a × T (has a v)

pub record LookUp (p : Problem) (sets work : List ℕ) (k v : ℕ) : Type 0 where
  pub known : k < length p.constraints
  pub three : length (constraint_at p k).scope ≡ 3
  pub first : Alone (at sets (at (constraint_at p k).scope 0)) (at work (at (constraint_at p k).scope 0))
  pub second : Alone (at sets (at (constraint_at p k).scope 1)) v

-- ready to look up the constraints of `some`, where those of `todo` are due
pub record LookUpsPending (p : Problem) (numbers supports sets work : List ℕ) (todo some v : ℕ) : Type 0 where
  pub pending : ConstraintsPending p numbers supports sets todo
  pub wide : todo < 2 ^ 64
  pub looks : (k : ℕ) → T (has some k) → LookUp p sets work k v

-- r has the variables whose sets changed: their constraints are due, and of `todo` those that were not looked up
pub record LookedLeft (p : Problem) (numbers supports sets sets' : List ℕ) (todo some r : ℕ) : Type 0 where
  pub lessened : Lessened p sets sets' r
  pub changed : (x : ℕ) → T (has r x) → at sets' x ≡ at sets x → ⊥
  pub pending : (g : ℕ) → Touched numbers r g → ConstraintsPending p numbers supports sets' (bit_or (bit_and todo ((2 ^ 64 - 1) - some)) g)

-- the answer is None at a dead end, else the variables whose sets changed
abbrev pub LookedUp : Problem → List ℕ → List ℕ → List ℕ → List ℕ → ℕ → ℕ → Option ℕ → Type 0
LookedUp p numbers supports sets sets' todo some r = MatchOption r (Dead p sets sets') (LookedLeft p numbers supports sets sets' todo some)
