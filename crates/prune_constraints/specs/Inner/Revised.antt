-- Pruning by the constraints alone: what one constraint leaves of the sets, and what the functions of this crate say of a problem.
use Rattle.std.specs.Prelude.{◌≡◌, false, not, List, ℕ, ◌<◌, T, eqb, length, Option, MatchOption}
use Rattle.model.specs.Kit.{Memᴰ}
use Rattle.model.specs.{Lists.both, Lists.at, Lists.tabulate, ValueSets.has, ValueSets.mask_of, ValueSets.Inside, Problem.Problem, Problem.Constraint, Problem.constraint_at, Search.supported}
use Rattle.model.specs.{Inner.Pruning.Sets, Inner.WellFormed.WellFormed}
use Rattle.model.proofs.Sets.{size}
use Rattle.arrays.specs.{Inner.Places.VALUES, Inner.Layout.Numbers, Inner.Layout.Supports, Inner.Tables.Linked, Inner.Tables.Words, Inner.Tables.is_by_rows, Inner.Pruning.Given}
use Rattle.arrays.specs.Inner.Pruning.{Lessened, Ended, Fixed, sets_of}

-- for each variable the values of its set that have a row of the constraint inside the sets
unfoldable pub revised : List ℕ → Constraint → List ℕ
revised ds c = tabulate (length ds) (λ x. mask_of (λ v. both (has (at ds x) v) (supported ds x v c)))

-- a set would be empty, and all are as they came
pub record Emptied (c : Constraint) (ds es : List ℕ) : Type 0 where
  pub ended : (x : ℕ) × Memᴰ x c.scope × (at (revised ds c) x ≡ 0)
  pub kept : es ≡ ds

-- all sixteen sets are as above, and r has the variables whose sets changed
pub record Pruned (c : Constraint) (ds es : List ℕ) (r : ℕ) : Type 0 where
  pub sets : es ≡ revised ds c
  pub full : (x : ℕ) → Memᴰ x c.scope → at es x ≡ 0 → ⊥
  pub moved : (x : ℕ) → has r x ≡ not (eqb (at es x) (at ds x))

-- one constraint has pruned the sets: the answer is None where one would be empty, else the variables whose sets changed
abbrev pub Revision : Constraint → List ℕ → List ℕ → Option ℕ → Type 0
Revision c ds es r = MatchOption r (Emptied c ds es) (Pruned c ds es)

-- ready to prune by the constraints of `todo`: every other that is not pruned by variable takes nothing
pub record ConstraintsPending (p : Problem) (numbers supports sets : List ℕ) (todo : ℕ) : Type 0 where
  pub given : Given p sets
  pub well_formed : WellFormed p
  pub numbered : Numbers p numbers
  pub tabled : Supports p supports
  pub linked : Linked p numbers
  pub worded : at numbers VALUES < 9 → Words numbers supports
  pub known : (k : ℕ) → T (has todo k) → k < length p.constraints
  pub others : (k : ℕ) → k < length p.constraints → has todo k ≡ false → is_by_rows p k ≡ false → Fixed (sets_of p sets) (constraint_at p k)

-- a dead end; which values are gone is open, but no set has gained one
pub record Dead (p : Problem) (sets sets' : List ℕ) : Type 0 where
  pub ended : Ended p sets
  pub sixteen : Sets 16 sets'
  pub less : Inside sets' sets

-- no constraint that is not pruned by variable takes anything, and r has the variables whose sets changed
pub record ConstraintsLeft (p : Problem) (sets sets' : List ℕ) (r : ℕ) : Type 0 where
  pub lessened : Lessened p sets sets' r
  pub smaller : (x : ℕ) → T (has r x) → size sets' < size sets
  pub fixed : (k : ℕ) → k < length p.constraints → is_by_rows p k ≡ false → Fixed (sets_of p sets') (constraint_at p k)

-- the answer is None at a dead end, else the variables whose sets changed
abbrev pub Constrained : Problem → List ℕ → List ℕ → Option ℕ → Type 0
Constrained p sets sets' r = MatchOption r (Dead p sets sets') (ConstraintsLeft p sets sets')
