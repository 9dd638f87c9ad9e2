-- What the search reads besides the arrays of Layout: tables that are made once from them, before the first node.
use Rattle.std.specs.Prelude.{◌≡◌, Bool, true, false, not, List, [], ◌∷◌, ℕ, ◌+◌, ◌*◌, ◌%◌, ◌^◌, ◌<◌, length, T, eqb, ltb, leb}
use Rattle.model.specs.Lists.{any, at, keep, same, both, either}
use Rattle.model.specs.{ValueSets.has, ValueSets.mask_of, ValueSets.members, ValueSets.least, Problem.Problem, Problem.constraint_at, Problem.symmetry_at}
use Rattle.arrays.specs.Inner.Places.{SCOPES, VALUES, LINKED, BY_ROWS, OTHERS, LOOSE, LOOKS, SPREAD, UNIONS, SMALLER, OWN}
use Rattle.arrays.specs.Inner.Layout.{image_code, Numbers, Supports}

-- ---- constraints on two variables, by variable
-- the first constraint on x and y, x below y; the number of constraints where there is none
unfoldable pub link_of : Problem → ℕ → ℕ → ℕ
link_of p x y = least (length p.constraints) (λ k. same (constraint_at p k).scope (x ∷ y ∷ []))

-- constraint k is pruned by variable: it is the first on its two variables.
-- (Two constraints on the same variables must not become one: that would prune more than is defined.)
unfoldable pub is_by_rows : Problem → ℕ → Bool
is_by_rows p k = both (eqb (length (constraint_at p k).scope) 2) (eqb (link_of p (at (constraint_at p k).scope 0) (at (constraint_at p k).scope 1)) k)

-- v and w are a row of constraint k, or there is no constraint k
abbrev pub allowed : Problem → ℕ → ℕ → ℕ → Bool
allowed p k v w = either (leb (length p.constraints) k) (any (same (v ∷ w ∷ [])) (constraint_at p k).rows)

-- x's value v goes together with y's value w in the first constraint on the two
unfoldable pub goes : Problem → ℕ → ℕ → ℕ → ℕ → Bool
goes p x v y w = elim (ltb x y) [ true ↦ allowed p (link_of p x y) v w | false ↦ allowed p (link_of p y x) w v ]

-- `tables`, sets of sixteen values: from 0 on sixteen sets for each of twelve variables and each of its values, the values of variable y
-- that go with it at y
abbrev pub Rows : Problem → List ℕ → Type 0
Rows p tables = (x v y : ℕ) → x < 12 → v < 16 → y < 16 → at tables (256 * x + 16 * v + y) ≡ mask_of (goes p x v y)

-- `numbers`: the variables in a constraint that is pruned by variable, those constraints, for each variable the other constraints that have it in
-- their scope, and the loose variables: no value of another variable is refused by two of a loose variable's values
pub record Linked (p : Problem) (numbers : List ℕ) : Type 0 where
  pub by_rows : (k : ℕ) → k < length p.constraints → has (at numbers BY_ROWS) k ≡ is_by_rows p k
  pub linked : (x k : ℕ) → k < length p.constraints → T (is_by_rows p k) → T (any (eqb x) (constraint_at p k).scope) → T (has (at numbers LINKED) x)
  pub linked_few : (x : ℕ) → T (has (at numbers LINKED) x) → x < p.variables
  pub touching : (x k : ℕ) → x < 16 → k < length p.constraints → has (at numbers (OTHERS + x)) k ≡ both (any (eqb x) (constraint_at p k).scope) (not (is_by_rows p k))
  pub touching_few : (x : ℕ) → x < 16 → at numbers (OTHERS + x) < 2 ^ length p.constraints
  pub loose : (x u v y w : ℕ) → T (has (at numbers LOOSE) x) → T (has (at p.initial x) u) → T (has (at p.initial x) v) → (u ≡ v → ⊥) →
      T (has (at p.initial y) w) → T (either (goes p x u y w) (goes p x v y w))

-- ---- constraints on three variables, for sets of values below 8
-- a number of eight lanes of eight bits, bit 8 j + w being value w of lane j: its lanes are the unions of those of the members of m
pub record UnionOf (m : ℕ) (lane : ℕ → ℕ → ℕ) (r : ℕ) : Type 0 where
  pub union_i : (i j w : ℕ) → i < 4 → j < 8 → w < 8 → T (has m i) → T (has (lane i j) w) → T (has r (8 * j + w))
  pub union_e : (j w : ℕ) → j < 8 → w < 8 → T (has r (8 * j + w)) → (i : ℕ) × (i < 4) × T (has m i) × T (has (lane i j) w)

-- `numbers`: for each set of values below 8 all of its lanes
abbrev pub Spreads : List ℕ → Type 0
Spreads numbers = (b j w : ℕ) → b < 256 → j < 8 → w < 8 → has (at numbers (SPREAD + b)) (8 * j + w) ≡ has b j

-- the values of the second variable that go together with u of the first and w of the third in constraint k
abbrev pub between : List ℕ → ℕ → ℕ → ℕ → ℕ
between supports k w u = mask_of (λ v. has (at supports (256 * k + 16 * u + v)) w)

-- `numbers`: these where some constraint is on three variables (the first byte of its packed scope); and for each such constraint, each
-- half of eight values and each set of four, in lanes by the first variable's values, the unions of what goes together with the second variable's
-- values, sets of the third's, and of what goes together with the third's, sets of the second's
pub record Words (numbers supports : List ℕ) : Type 0 where
  pub spread : (k : ℕ) → k < 32 → at numbers (SCOPES + k) % 256 ≡ 3 → Spreads numbers
  pub by_second : (k h m : ℕ) → k < 32 → at numbers (SCOPES + k) % 256 ≡ 3 → h < 2 → m < 16 →
      UnionOf m (λ i j. at supports (256 * k + 16 * j + (4 * h + i))) (at numbers (UNIONS + 64 * k + 16 * h + m))
  pub by_third : (k h m : ℕ) → k < 32 → at numbers (SCOPES + k) % 256 ≡ 3 → h < 2 → m < 16 →
      UnionOf m (λ i j. between supports k (4 * h + i) j) (at numbers (UNIONS + 64 * k + 32 + 16 * h + m))

-- ---- constraints on three variables, by look-ups
-- constraint c is on three variables, and the second is the last of the first k
pub record LooksUp (p : Problem) (k c : ℕ) : Type 0 where
  pub known : c < length p.constraints
  pub three : length (constraint_at p c).scope ≡ 3
  pub second : at (constraint_at p c).scope 1 + 1 ≡ k

-- `numbers`: for each depth some of these constraints
abbrev pub Looks : Problem → List ℕ → Type 0
Looks p numbers = (k c : ℕ) → k < 13 → T (has (at numbers (LOOKS + k)) c) → LooksUp p k c

-- ---- symmetries
-- the code of the image of the pair (x, v) under symmetry e
abbrev pub image_of : Problem → ℕ → ℕ → ℕ → ℕ
image_of p e x v = image_code p (symmetry_at p e) x v

-- the values of y that are in images of the smaller values of x's initial set
abbrev pub smaller : Problem → ℕ → ℕ → ℕ → ℕ → ℕ
smaller p e x v y = mask_of (λ w. any (λ u. eqb (image_of p e x u) (16 * y + w)) (keep (λ u. ltb u v) (members (at p.initial x))))

-- `tables`: for each of sixteen symmetries, each variable x and each value v of its initial set sixteen sets, those of the smaller values; and the
-- code of the image of each pair
pub record ImageTables (p : Problem) (tables : List ℕ) : Type 0 where
  pub cuts : (e x v y : ℕ) → e < length p.symmetries → x < p.variables → T (has (at p.initial x) v) → y < 16 →
      at tables (SMALLER + 3072 * e + 256 * x + 16 * v + y) ≡ smaller p e x v y
  pub own : (e x v : ℕ) → e < length p.symmetries → x < p.variables → T (has (at p.initial x) v) → at tables (OWN + 192 * e + 16 * x + v) ≡ image_of p e x v

pub record Indexed (p : Problem) (numbers supports tables : List ℕ) : Type 0 where
  pub numbered : Numbers p numbers
  pub supported : Supports p supports
  pub linked : Linked p numbers
  pub rowed : Rows p tables
  pub worded : at numbers VALUES < 9 → Words numbers supports
  pub looks : Looks p numbers
  pub image_tables : ImageTables p tables
