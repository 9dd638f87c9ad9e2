-- What the functions inside this crate say to each other.
use Rattle.std.specs.Prelude.{◌≡◌, Bool, true, false, List, [], ◌∷◌, ℕ, ◌+◌, ◌*◌, ◌/◌, ◌%◌, ◌^◌, ◌≤◌, ◌<◌, T, eqb, ltb, leb, length, set}
use Rattle.model.specs.{Lists.any, Lists.at, Lists.keep, Lists.same, Lists.either, ValueSets.has, ValueSets.mask_of, ValueSets.members, Problem.Problem, Problem.constraint_at}
use Rattle.model.specs.Inner.WellFormed.{WellFormed}
use Rattle.arrays.specs.Inner.Places.{INITIAL, SCOPES, VARIABLES, VALUES, CONSTRAINTS, LINKED, LOOSE, SPREAD, UNIONS, SMALLER, OWN}
use Rattle.arrays.specs.{Inner.Layout.Numbers, Inner.Layout.Supports, Inner.Tables.link_of, Inner.Tables.Linked, Inner.Tables.Words, Inner.Tables.between}

-- the initial set of variable x
abbrev pub initial_of : List ℕ → ℕ → ℕ
initial_of numbers x = at numbers (INITIAL + x) % 65536

-- ---- numbers of eight lanes of eight bits, bit 8 v + w being value w of lane v
-- lane v has the values below 8 of a set
abbrev pub Lanes : (ℕ → ℕ) → ℕ → Type 0
Lanes sets r = (v w : ℕ) → v < 8 → w < 8 → has r (8 * v + w) ≡ has (sets v) w

-- number n of constraint k's sixteen, in lanes by the first variable's values: eight of the second's values, eight of the third's
pub record Word (supports : List ℕ) (k n r : ℕ) : Type 0 where
  pub second : n / 8 ≡ 0 → Lanes (λ u. at supports (256 * k + n % 8 + 16 * u)) r
  pub third : n / 8 ≡ 1 → Lanes (between supports k (n % 8)) r

-- bit v of each lane is bit w of that lane of number v
abbrev pub Turned : (ℕ → ℕ) → ℕ → ℕ → Type 0
Turned words w r = (u v : ℕ) → u < 8 → v < 8 → has r (8 * u + v) ≡ has (words v) (8 * u + w)

-- the union of those of four numbers that are in m
pub record United (m : ℕ) (words : ℕ → ℕ) (r : ℕ) : Type 0 where
  pub union_i : (i b : ℕ) → i < 4 → T (has m i) → T (has (words i) b) → T (has r b)
  pub union_e : (b : ℕ) → T (has r b) → (i : ℕ) × (i < 4) × T (has m i) × T (has (words i) b)

-- the union of those in m of four numbers of constraint k, the first of which is 4 h
pub record Unioned (supports : List ℕ) (k h m r : ℕ) : Type 0 where
  pub words : List ℕ
  pub made : (n : ℕ) → n < 16 → Word supports k n (at words n)
  pub union : United m (λ i. at words (4 * h + i)) r

-- the unions are stored of the first i constraints, where they are on three variables, and `some` is not 0 if one is; the numbers before UNIONS are as they were
pub record Unions (supports : List ℕ) (i : ℕ) (old new : List ℕ) (some : ℕ) : Type 0 where
  pub size : length new ≡ length old
  pub here : (k : ℕ) → k < i → at old (SCOPES + k) % 256 ≡ 3 → (c : ℕ) → c < 64 → Unioned supports k (c / 16) (c % 16) (at new (UNIONS + 64 * k + c))
  pub told : (k : ℕ) → k < i → at old (SCOPES + k) % 256 ≡ 3 → 0 < some
  pub kept : (j : ℕ) → j < UNIONS → at new j ≡ at old j

-- all of the lanes of b, in no more bits than it needs
pub record Spread (b r : ℕ) : Type 0 where
  pub lanes : (j w : ℕ) → w < 8 → has r (8 * j + w) ≡ has b j
  pub few : (k : ℕ) → b < 2 ^ k → r < 2 ^ (8 * k)

-- the numbers of lanes are as Words has them, where there are fewer than nine values, and the numbers before SPREAD are as they were
pub record Worded (supports old new : List ℕ) : Type 0 where
  pub size : length new ≡ length old
  pub kept : (j : ℕ) → j < SPREAD → at new j ≡ at old j
  pub words : at new VALUES < 9 → Words new supports

-- ---- image tables
-- the values w of y such that 16 y + w is the image of a smaller value of m
abbrev pub smaller_of : (ℕ → ℕ) → ℕ → ℕ → ℕ → ℕ
smaller_of f m v y = mask_of (λ w. any (λ u. eqb (f u) (16 * y + w)) (keep (λ u. ltb u v) (members m)))

-- what the tables hold of value v, where the variable's images stand from a number on
pub record PairStored (images : List ℕ) (m from v : ℕ) (tables : List ℕ) : Type 0 where
  pub cut : (y : ℕ) → y < 16 → at tables (SMALLER + 16 * (from + v) + y) ≡ smaller_of (λ u. at images (from + u)) m v y
  pub own : at tables (OWN + (from + v)) ≡ at images (from + v)

-- all values of m are stored
abbrev pub VariableStored : List ℕ → ℕ → ℕ → List ℕ → Type 0
VariableStored images m from tables = (v : ℕ) → v < 16 → T (has m v) → PairStored images m from v tables

-- the rows, and what is stored of the pairs before a number, are as they were
pub record EarlierKept (from : ℕ) (old new : List ℕ) : Type 0 where
  pub size : length new ≡ length old
  pub low : (j : ℕ) → j < SMALLER + 16 * from → at new j ≡ at old j
  pub high : (j : ℕ) → OWN ≤ j → j < OWN + from → at new j ≡ at old j

-- the values below i are stored, and the sets at hand are those of their images
pub record PairsStored (images : List ℕ) (m from i : ℕ) (old new sets : List ℕ) : Type 0 where
  pub kept : EarlierKept from old new
  pub stored : (v : ℕ) → v < i → T (has m v) → PairStored images m from v new
  pub held : (y : ℕ) → y < 16 → at sets y ≡ smaller_of (λ u. at images (from + u)) m i y
  pub sixteen : length sets ≡ 16

-- the first i variables are stored, of the symmetry whose images stand from a number on
pub record SymmetryStored (numbers images : List ℕ) (from i : ℕ) (old new : List ℕ) : Type 0 where
  pub stored : (x : ℕ) → x < i → VariableStored images (initial_of numbers x) (from + 16 * x) new
  pub kept : EarlierKept from old new

-- n variables of the first i symmetries are stored
pub record SymmetriesStored (numbers images : List ℕ) (n i : ℕ) (old new : List ℕ) : Type 0 where
  pub stored : (e x : ℕ) → e < i → x < n → VariableStored images (initial_of numbers x) (192 * e + 16 * x) new
  pub kept : EarlierKept 0 old new

-- ---- the constraints that are pruned by variable
-- the numbers before LOOSE are as Linked has them: no variable is called loose yet
abbrev pub LinkedFirst : Problem → List ℕ → Type 0
LinkedFirst p numbers = Linked p (set numbers LOOSE 0)

-- so they are made, and those before LINKED are as they were
pub record LinkNumbers (old new : List ℕ) : Type 0 where
  pub linked : (p : Problem) → Numbers p old → WellFormed p → LinkedFirst p new
  pub size : length new ≡ length old
  pub kept : (j : ℕ) → j < LINKED → at new j ≡ at old j

-- ---- rows
-- what rows are made from
pub record RowsSource (p : Problem) (numbers supports : List ℕ) : Type 0 where
  pub numbered : Numbers p numbers
  pub supported : Supports p supports
  pub well_formed : WellFormed p
  pub linked : LinkedFirst p numbers

-- v and w go together in constraint k, if that is one of the first i
abbrev pub allowed_to : Problem → ℕ → ℕ → ℕ → ℕ → Bool
allowed_to p i k v w = either (leb i k) (any (same (v ∷ w ∷ [])) (constraint_at p k).rows)

abbrev pub goes_to : Problem → ℕ → ℕ → ℕ → ℕ → ℕ → Bool
goes_to p i x v y w = elim (ltb x y) [ true ↦ allowed_to p i (link_of p x y) v w | false ↦ allowed_to p i (link_of p y x) w v ]

-- the rows of the first i constraints
abbrev pub RowsTo : Problem → ℕ → List ℕ → Type 0
RowsTo p i tables = (x v y : ℕ) → x < 12 → v < 16 → y < 16 → at tables (256 * x + 16 * v + y) ≡ mask_of (goes_to p i x v y)

-- ---- loose variables
-- what value v of m refuses is in the set r
pub record Refused (tables : List ℕ) (m from v r : ℕ) : Type 0 where
  pub refused : T (has m v) → (w : ℕ) → w < 16 → T (either (has (at tables (from + 16 * v)) w) (has r w))

-- what two of the first i values of m refuse is in the set r
pub record Twice (tables : List ℕ) (m from i r : ℕ) : Type 0 where
  pub refused : (u v : ℕ) → u < v → v < i → T (has m u) → T (has m v) → (w : ℕ) → w < 16 →
      T (either (either (has (at tables (from + 16 * u)) w) (has (at tables (from + 16 * v)) w)) (has r w))

-- no value of the first i variables is refused by two values of x
pub record LooseTo (numbers tables : List ℕ) (x i : ℕ) : Type 0 where
  pub goes : (u v y w : ℕ) → y < i → u < v → v < 16 → T (has (initial_of numbers x) u) → T (has (initial_of numbers x) v) → w < 16 → T (has (initial_of numbers y) w) →
      T (either (has (at tables (256 * x + y + 16 * u)) w) (has (at tables (256 * x + y + 16 * v)) w))

pub record LooseSet (numbers tables : List ℕ) (i r : ℕ) : Type 0 where
  pub below : (x : ℕ) → T (has r x) → x < i
  pub loose : (x : ℕ) → T (has r x) → LooseTo numbers tables x (at numbers VARIABLES)

-- ---- look-ups
-- each constraint of r has three variables, and the second is the last of the first k
abbrev pub LookScopes : List ℕ → ℕ → ℕ → Type 0
LookScopes numbers k r = (c : ℕ) → T (has r c) → (c < at numbers CONSTRAINTS) × (at numbers (SCOPES + c) % 256 ≡ 3) × (at numbers (SCOPES + c) / 65536 % 256 + 1 ≡ k)
