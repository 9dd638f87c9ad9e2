-- What the functions inside this crate say to each other.
use Rattle.std.specs.Prelude.{◌≡◌, Bool, false, ◌↔◌, List, [], ◌∷◌, ◌++◌, ℕ, suc, ◌+◌, ◌*◌, ◌/◌, ◌%◌, ◌^◌, ◌≤◌, ◌<◌, eqb, length}
use Rattle.model.specs.Kit.{Memᴰ, bit_or}
use Rattle.model.specs.{Lists.at, Lists.both, ValueSets.has, ValueSets.mask_of, ValueSets.least, Inner.Filling.Filled}
use Rattle.order.specs.Reordered.{value_of}
use Rattle.model.proofs.Lists.{Sorted}
use Rattle.arrays.specs.Inner.Layout.{place, arity_in, variable_in}

-- ---- places
-- where x stands among the first n of the order, n where it does not
abbrev pub stand : ℕ → List ℕ → ℕ → ℕ
stand n order x = least n (λ i. eqb (at order i) x)

-- the first n of the order are variables
abbrev pub Small : ℕ → List ℕ → Type 0
Small n order = (i : ℕ) → i < n → at order i < 12

-- ---- sets by variable
pub record MovedSets (n : ℕ) (order old new : List ℕ) : Type 0 where
  pub touching : (i : ℕ) → i < n → at new i ≡ at old (at order i)
  pub initial : (i : ℕ) → i < n → at new (16 + i) ≡ at old (16 + at order i)
  pub touching_rest : (i : ℕ) → n ≤ i → i < 16 → at new i ≡ at old i
  pub initial_rest : (i : ℕ) → n ≤ i → i < 16 → at new (16 + i) ≡ at old (16 + i)
  pub other : (j : ℕ) → 32 ≤ j → at new j ≡ at old j
  pub size : length new ≡ length old

-- ---- images
-- an image with its variable named by its position
abbrev pub renamed_to : List ℕ → ℕ → ℕ
renamed_to stands q = 16 * (at stands (q / 16) % 16) + q % 16

-- where the pair stood that is now the j-th of its symmetry
abbrev pub image_from : List ℕ → ℕ → ℕ
image_from order j = 16 * at order (j / 16) + j % 16

-- the images of the first g symmetries
pub record MovedImages (n : ℕ) (order stands : List ℕ) (g : ℕ) (old new : List ℕ) : Type 0 where
  pub here : (e j : ℕ) → e < g → j < 16 * n → at new (192 * e + j) ≡ renamed_to stands (at old (192 * e + image_from order j))
  pub rest : (j : ℕ) → 192 * g ≤ j → at new j ≡ at old j
  pub size : length new ≡ length old

-- ---- support tables
-- the set of v if w is in s, else none
pub record Cell (s w v r : ℕ) : Type 0 where
  pub has_is : (x : ℕ) → has r x ≡ both (has s w) (eqb x v)
  pub few : r < 2 ^ 16

-- a column w after v, whose set is s, was added to it
abbrev pub Added : ℕ → ℕ → List ℕ → ℕ → ℕ → Type 0
Added s v old w r = (t : ℕ) × Cell s w v t × (r ≡ bit_or (at old w) t)

-- a table of three values below d
pub record Narrow (d base : ℕ) (s : List ℕ) : Type 0 where
  pub first : (a b : ℕ) → d ≤ a → a < 16 → b < 16 → at s (base + (16 * a + b)) ≡ 0
  pub second : (a b : ℕ) → a < 16 → d ≤ b → b < 16 → at s (base + (16 * a + b)) ≡ 0
  pub last : (a b v : ℕ) → a < 16 → b < 16 → d ≤ v → v < 16 → has (at s (base + (16 * a + b))) v ≡ false

-- the sets of v and each of the first m values are exchanged with those of these and v
pub record Crossed (base v m : ℕ) (old new : List ℕ) : Type 0 where
  pub row : (w : ℕ) → w < m → at new (base + (16 * v + w)) ≡ at old (base + (16 * w + v))
  pub column : (w : ℕ) → w < m → at new (base + (16 * w + v)) ≡ at old (base + (16 * v + w))
  pub other : (j : ℕ) → ((w : ℕ) → w < m → base + (16 * v + w) ≡ j → ⊥) → ((w : ℕ) → w < m → base + (16 * w + v) ≡ j → ⊥) → at new j ≡ at old j
  pub size : length new ≡ length old

-- the first two coordinates are exchanged
abbrev pub Swapped : ℕ → List ℕ → List ℕ → Type 0
Swapped base old new = Filled (λ j. base + j) (λ j r. r ≡ at old (base + (16 * (j % 16) + j / 16))) 256 old new

-- the last two coordinates are exchanged, in the first m sets
abbrev pub Transposed : ℕ → ℕ → List ℕ → List ℕ → Type 0
Transposed base m old new = Filled (λ j. base + j) (λ j r. r ≡ mask_of (λ v. has (at old (base + (16 * (j / 16) + v))) (j % 16))) m old new

-- the table from a base on is that of Q, a test of the values of the variables, where its coordinates belong to these variables
abbrev pub Meant : ((ℕ → ℕ) → Bool) → List ℕ → ℕ → List ℕ → Type 0
Meant Q names base s =
    (vs : List ℕ) → suc (length vs) ≡ length names → ((i : ℕ) → i < length vs → at vs i < 16) →
    at s (base + place vs) ≡ mask_of (λ v. Q (value_of names (vs ++ (v ∷ []))))

-- the names are sorted, r is the scope's number, and the table is of the same test as before
pub record Sorting (names : List ℕ) (base : ℕ) (old new : List ℕ) (r : ℕ) : Type 0 where
  pub sorted : List ℕ
  pub ascends : Sorted (λ (x y : ℕ). x < y) sorted
  pub same : (i : ℕ) → Memᴰ i sorted ↔ Memᴰ i names
  pub long : length sorted ≡ length names
  pub arity : arity_in r ≡ length sorted
  pub scope : (i : ℕ) → i < length sorted → variable_in r i ≡ at sorted i
  pub meant : (Q : (ℕ → ℕ) → Bool) → Meant Q names base old → Meant Q sorted base new

-- only the 256 sets from a base on may have changed
pub record Framed (base : ℕ) (old new : List ℕ) : Type 0 where
  pub low : (j : ℕ) → j < base → at new j ≡ at old j
  pub high : (j : ℕ) → base + 256 ≤ j → at new j ≡ at old j
  pub size : length new ≡ length old

-- the number w is that of a scope whose variables have these names
pub record Scope (stands : List ℕ) (w : ℕ) (names : List ℕ) : Type 0 where
  pub arity : arity_in w ≡ length names
  pub some : 1 ≤ length names
  pub few : length names ≤ 3
  pub variable : (i : ℕ) → i < length names → variable_in w i < 16
  pub name : (i : ℕ) → i < length names → at stands (variable_in w i) ≡ at names i
  pub small : (i : ℕ) → i < length names → at names i < 16
  pub apart : (i j : ℕ) → i < length names → j < length names → at names i ≡ at names j → i ≡ j

abbrev pub ScopeMoved : List ℕ → ℕ → ℕ → List ℕ → List ℕ → ℕ → Type 0
ScopeMoved stands w base old new r = (names : List ℕ) → Scope stands w names → Sorting names base old new r

-- the scopes and tables of the first c constraints
pub record Renamed (stands : List ℕ) (c : ℕ) (numbers supports numbers' supports' : List ℕ) : Type 0 where
  pub moved : (k : ℕ) → k < c → ScopeMoved stands (at numbers (32 + k)) (256 * k) supports supports' (at numbers' (32 + k))
  pub other : (j : ℕ) → ((k : ℕ) → k < c → 32 + k ≡ j → ⊥) → at numbers' j ≡ at numbers j
  pub rest : (j : ℕ) → 256 * c ≤ j → at supports' j ≡ at supports j
  pub numbers_size : length numbers' ≡ length numbers
  pub supports_size : length supports' ≡ length supports
