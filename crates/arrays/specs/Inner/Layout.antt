-- What the arrays of a compiled problem hold. The questions fill them once, and the search reads nothing else of the sheet.
use Rattle.std.specs.Prelude.{◌≡◌, List, [], ◌∷◌, ◌++◌, ℕ, suc, ◌+◌, ◌*◌, ◌/◌, ◌%◌, ◌^◌, ◌≤◌, ◌<◌, length, eqb}
use Rattle.model.specs.{Lists.any, Lists.at, Lists.same, ValueSets.has, ValueSets.mask_of, Problem.Problem, Problem.pair, Problem.constraint_at, Problem.symmetry_at}
use Rattle.arrays.specs.Inner.Places.{INITIAL, SCOPES, VARIABLES, VALUES, CONSTRAINTS, SYMMETRIES}

-- where the set of last values stands that go with the other values of a row
abbrev pub place : List ℕ → ℕ
place [] = 0
place (x ∷ []) = x
place (x ∷ y ∷ r) = 16 * x + y

-- a packed scope: the arity, then the variables, a byte each
abbrev pub arity_in : ℕ → ℕ
arity_in w = w % 256

abbrev pub variable_in : ℕ → ℕ → ℕ
variable_in w i = w / 256 ^ suc i % 256

-- `numbers`: at the front, for each of sixteen variables, the set of the constraints that have it in their scope;
-- the initial sets, {0} for a variable from n up; for each constraint its packed scope; n, d, c and g
pub record Numbers (p : Problem) (numbers : List ℕ) : Type 0 where
  pub touching : (x k : ℕ) → x < 16 → k < length p.constraints → has (at numbers x) k ≡ any (eqb x) (constraint_at p k).scope
  pub touching_few : (x : ℕ) → x < 16 → at numbers x < 2 ^ length p.constraints
  pub initial : (x : ℕ) → x < p.variables → at numbers (INITIAL + x) ≡ at p.initial x
  pub unused : (x : ℕ) → p.variables ≤ x → x < 16 → at numbers (INITIAL + x) ≡ 1
  pub arity : (k : ℕ) → k < length p.constraints → arity_in (at numbers (SCOPES + k)) ≡ length (constraint_at p k).scope
  pub scope : (k i : ℕ) → k < length p.constraints → i < length (constraint_at p k).scope →
      variable_in (at numbers (SCOPES + k)) i ≡ at (constraint_at p k).scope i
  pub variables : at numbers VARIABLES ≡ p.variables
  pub values : at numbers VALUES ≡ p.values
  pub constraints : at numbers CONSTRAINTS ≡ length p.constraints
  pub symmetries : at numbers SYMMETRIES ≡ length p.symmetries

-- `supports`, 256 sets for each constraint: for all values of a row but the last, the set of the last values
abbrev pub Supports : Problem → List ℕ → Type 0
Supports p supports =
    (k : ℕ) → k < length p.constraints → (vs : List ℕ) → suc (length vs) ≡ length (constraint_at p k).scope → ((i : ℕ) → i < length vs → at vs i < 16) →
    at supports (256 * k + place vs) ≡ mask_of (λ v. any (same (vs ++ (v ∷ []))) (constraint_at p k).rows)

-- the code of pair number q among d values: 16 times its variable plus its value
abbrev pub pair_code_of : ℕ → ℕ → ℕ
pair_code_of d q = 16 * (q / d) + q % d

-- the code of the image of the pair (x, v) in a table
abbrev pub image_code : Problem → List ℕ → ℕ → ℕ → ℕ
image_code p g x v = pair_code_of p.values (at g (pair p x v))

-- `images`, 192 bytes for each symmetry: the code of the image of the pair (x, v) at 16 x + v
abbrev pub Images : Problem → List ℕ → Type 0
Images p images =
    (e x v : ℕ) → e < length p.symmetries → x < p.variables → v < p.values → at images (192 * e + 16 * x + v) ≡ image_code p (symmetry_at p e) x v

pub record Compiled (p : Problem) (numbers supports images : List ℕ) : Type 0 where
  pub numbered : Numbers p numbers
  pub supported : Supports p supports
  pub imaged : Images p images
