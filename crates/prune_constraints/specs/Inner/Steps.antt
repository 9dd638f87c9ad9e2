-- What the functions inside this crate say to each other: tables of sets, and one constraint at a time.
use Rattle.std.specs.Prelude.{◌≡◌, not, ◌⊎◌, List, [], ◌∷◌, ◌++◌, ℕ, suc, ◌+◌, ◌*◌, ◌^◌, ◌<◌, T, eqb, length, set, Option, MatchOption}
use Rattle.model.specs.Kit.{Memᴰ, bit_and, bit_or}
use Rattle.model.specs.{Lists.any, Lists.at, Lists.same, Lists.ascending, ValueSets.has, ValueSets.mask_of, ValueSets.one_if, Problem.Problem, Problem.Constraint}
use Rattle.model.specs.Inner.WellFormed.{WellFormed}
use Rattle.arrays.specs.{Inner.Places.VALUES, Inner.Places.OTHERS, Inner.Layout.Numbers, Inner.Layout.Supports, Inner.Layout.place, Inner.Tables.Words}

-- a set of one value
pub record OneValue (a : ℕ) : Type 0 where
  pub some : a ≡ 0 → ⊥
  pub only : (u v : ℕ) → T (has a u) → T (has a v) → u ≡ v

-- v of a and w of b go together: w is in the set of the table that stands v after the base
abbrev pub Together : List ℕ → ℕ → ℕ → ℕ → ℕ → ℕ → Type 0
Together t base a b v w = T (has a v) × T (has b w) × T (has (at t (base + v)) w)

-- the values of a and of b that go together with some value of the other set
pub record Supported2 (t : List ℕ) (base a b first last : ℕ) : Type 0 where
  pub first_i : (v w : ℕ) → Together t base a b v w → T (has first v)
  pub first_e : (v : ℕ) → T (has first v) → (w : ℕ) × Together t base a b v w
  pub last_i : (v w : ℕ) → Together t base a b v w → T (has last w)
  pub last_e : (w : ℕ) → T (has last w) → (v : ℕ) × Together t base a b v w

-- sixteen sets: e where b has the value, else the empty set
pub record Masks (b e : ℕ) (ms : List ℕ) : Type 0 where
  pub narrow : (v : ℕ) → at ms v < 2 ^ 16
  pub mask_i : (v w : ℕ) → T (has b v) → T (has e w) → T (has (at ms v) w)
  pub mask_e : (v w : ℕ) → T (has (at ms v) w) → T (has b v) × T (has e w)

-- sixteen sets with what those of the table from a base on have of the masks; r is the union of what they have
pub record Met (t : List ℕ) (base : ℕ) (ms old new : List ℕ) (r : ℕ) : Type 0 where
  pub size : length new ≡ length old
  pub each : (v : ℕ) → v < 16 → at new v ≡ bit_or (at old v) (bit_and (at t (base + v)) (at ms v))
  pub some_i : (v w : ℕ) → v < 16 → T (has (bit_and (at t (base + v)) (at ms v)) w) → T (has r w)
  pub some_e : (w : ℕ) → T (has r w) → (v : ℕ) × (v < 16) × T (has (bit_and (at t (base + v)) (at ms v)) w)

-- the values of b whose sets are not empty
pub record FullSets (sets : List ℕ) (b r : ℕ) : Type 0 where
  pub full_i : (v : ℕ) → T (has b v) → (at sets v ≡ 0 → ⊥) → T (has r v)
  pub full_e : (v : ℕ) → T (has r v) → T (has b v) × (at sets v ≡ 0 → ⊥)

-- three values that go together, each of its set: sixteen sets of the table for each value of the first
abbrev pub Together3 : List ℕ → ℕ → ℕ → ℕ → ℕ → ℕ → ℕ → ℕ → Type 0
Together3 t base a b e u v w = T (has a u) × Together t (base + 16 * u) b e v w

-- the values that go together with some values of the other two sets
pub record Supported3 (M : ℕ → ℕ → ℕ → Type 0) (first second last : ℕ) : Type 0 where
  pub first_i : (u v w : ℕ) → M u v w → T (has first u)
  pub first_e : (u : ℕ) → T (has first u) → (v : ℕ) × ((w : ℕ) × M u v w)
  pub second_i : (u v w : ℕ) → M u v w → T (has second v)
  pub second_e : (v : ℕ) → T (has second v) → (u : ℕ) × ((w : ℕ) × M u v w)
  pub last_i : (u v w : ℕ) → M u v w → T (has last w)
  pub last_e : (w : ℕ) → T (has last w) → (u : ℕ) × ((v : ℕ) × M u v w)

-- constraint c has this scope, of variables among the sixteen, and is number k of the table
pub record Scoped (c : Constraint) (supports : List ℕ) (k : ℕ) (scope : List ℕ) : Type 0 where
  pub is : c.scope ≡ scope
  pub inside : (x : ℕ) → Memᴰ x scope → x < 16
  pub ordered : T (ascending scope)
  pub room : k < 32
  pub table : (vs : List ℕ) → suc (length vs) ≡ length scope → ((i : ℕ) → i < length vs → at vs i < 16) →
      at supports (256 * k + place vs) ≡ mask_of (λ v. any (same (vs ++ (v ∷ []))) c.rows)

-- no set of these variables is empty
abbrev pub Nonempty : List ℕ → List ℕ → Type 0
Nonempty scope sets = (x : ℕ) → Memᴰ x scope → at sets x ≡ 0 → ⊥

-- the sets of these variables have values below 8
abbrev pub Narrow : List ℕ → List ℕ → Type 0
Narrow scope sets = (x : ℕ) → Memᴰ x scope → at sets x < 256

-- the arrays hold the constraints of p
pub record ConstraintsHeld (p : Problem) (numbers supports : List ℕ) : Type 0 where
  pub well_formed : WellFormed p
  pub numbered : Numbers p numbers
  pub tabled : Supports p supports
  pub worded : at numbers VALUES < 9 → Words numbers supports

-- t is empty, and nothing is stored
pub record SetEmptied (ds es : List ℕ) (t : ℕ) : Type 0 where
  pub ended : t ≡ 0
  pub kept : es ≡ ds

-- t is stored as the set of x, and r has x where that changed
pub record SetStored (ds es : List ℕ) (x t r : ℕ) : Type 0 where
  pub full : t ≡ 0 → ⊥
  pub stored : es ≡ set ds x t
  pub moved : r ≡ one_if (not (eqb t (at ds x))) x

-- the set of x becomes t: the answer is None where t is empty
abbrev pub SetCut : List ℕ → List ℕ → ℕ → ℕ → Option ℕ → Type 0
SetCut ds es x t r = MatchOption r (SetEmptied ds es t) (SetStored ds es x t)

-- the constraints, but those pruned by variable, that have one of the changed variables in their scope: the union of what OTHERS has for each
pub record Touched (numbers : List ℕ) (changed r : ℕ) : Type 0 where
  pub touched_i : (x k : ℕ) → T (has changed x) → T (has (at numbers (OTHERS + x)) k) → T (has r k)
  pub touched_e : (k : ℕ) → T (has r k) → (x : ℕ) × T (has changed x) × T (has (at numbers (OTHERS + x)) k)

-- those of them that wait for the next round: not number k, which has just pruned, nor those left of this round
pub record Waiting (numbers : List ℕ) (changed k left r : ℕ) : Type 0 where
  pub waiting_i : (x j : ℕ) → T (has changed x) → T (has (at numbers (OTHERS + x)) j) → T (has r j) ⊎ (T (has left j) ⊎ (j ≡ k))
  pub waiting_e : (j : ℕ) → T (has r j) → (x : ℕ) × T (has changed x) × T (has (at numbers (OTHERS + x)) j)

-- some of the constraints that are due
pub record Round (due r : ℕ) : Type 0 where
  pub some : r ≡ 0 → ⊥
  pub inside : (k : ℕ) → T (has r k) → T (has due k)
