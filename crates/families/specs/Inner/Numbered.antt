-- What the functions that count families are lent, of which problem.
use Rattle.std.specs.Prelude.{◌≡◌, Bool, List, ℕ, zero, suc, ◌+◌, ◌-◌, ◌*◌, ◌/◌, ◌%◌, ◌^◌, ◌≤◌, ◌<◌, length, T}
use Rattle.model.specs.{Lists.at, Problem.Problem, Problem.is_solution, Inner.WellFormed.WellFormed, Inner.WellFormed.Respected}
use Rattle.arrays.specs.Inner.Layout.{Images}
use Rattle.families.specs.declared.Solutions.{Solutions}
use Rattle.families.specs.{Families.solutions_of, Inner.Walk.solution_at, Inner.Walk.Walk}

-- the solutions, ascending, row after row
pub record Listed (p : Problem) (rows : List ℕ) (variables : ℕ) : Type 0 where
  pub good : WellFormed p
  pub respected : Respected p
  pub named : variables ≡ p.variables
  pub few : length (solutions_of p) ≤ 4096
  pub whole : length (solutions_of p) * variables ≤ length rows
  pub row : (i x : ℕ) → i < length (solutions_of p) → x < variables → at rows (i * variables + x) ≡ at (solution_at p i) x

-- and the images of the pairs
pub record Imaged (p : Problem) (rows images : List ℕ) (variables : ℕ) : Type 0 where
  pub listed : Listed p rows variables
  pub some : length p.symmetries ≤ 136
  pub imaged : Images p images
  pub room : 192 * length p.symmetries ≤ length images

-- ---- keys
-- the first n values of a row as the digits of one number, four bits each
unfoldable pub key_of : ℕ → (ℕ → ℕ) → ℕ
key_of zero f = 0
key_of (suc n) f = 16 * key_of n f + f n

abbrev pub key_at : Problem → ℕ → ℕ
key_at p i = key_of p.variables (at (solution_at p i))

-- Solutions whose keys leave the same rest by 1021 make a chain. A link is one more than a solution's number, or 0.
-- the link to the last in a chain of those below m
pub record Last (p : Problem) (m chain link : ℕ) : Type 0 where
  pub most : link ≤ m
  pub own : (j : ℕ) → link ≡ j + 1 → key_at p j % 1021 ≡ chain
  pub none : (j : ℕ) → link ≤ j → j < m → key_at p j % 1021 ≡ chain → ⊥

-- of the first m solutions keys has the key and, below 65536, the link to the one before it in its chain, and heads the link to the last in each chain
pub record Chained (p : Problem) (keys heads : List ℕ) (m : ℕ) : Type 0 where
  pub keyed : (i : ℕ) → i < m → at keys i / 65536 ≡ key_at p i
  pub linked : (i : ℕ) → i < m → Last p i (key_at p i % 1021) (at keys i % 65536)
  pub headed : (h : ℕ) → h < 1021 → Last p m h (at heads h)

-- no chain has a solution yet
pub record Unlinked (heads : List ℕ) : Type 0 where
  pub size : length heads ≡ 1021
  pub empty : (h : ℕ) → h < 1021 → at heads h ≡ 0

-- what the pair of code c adds to the key of a row: its value as the digit of its variable
abbrev pub Weighed : ℕ → List ℕ → Type 0
Weighed variables weights = (c : ℕ) → c < 16 * variables → at weights c ≡ c % 16 * 2 ^ (4 * (variables - 1 - c / 16))

-- ---- images
pub record Imaging (p : Problem) (rows images : List ℕ) (variables i k : ℕ) : Type 0 where
  pub lent : Imaged p rows images variables
  pub solution : i < length (solutions_of p)
  pub symmetry : k < length p.symmetries

-- the key of a solution is sought among those of all
pub record Finding (p : Problem) (s keys heads : List ℕ) (key : ℕ) : Type 0 where
  pub good : WellFormed p
  pub respected : Respected p
  pub few : length (solutions_of p) ≤ 4096
  pub chained : Chained p keys heads (length (solutions_of p))
  pub solves : T (is_solution p s)
  pub sought : key ≡ key_of p.variables (at s)

-- what the numbers of images are found by
pub record Finder (p : Problem) (keys heads weights : List ℕ) (variables : ℕ) : Type 0 where
  pub chained : Chained p keys heads (length (solutions_of p))
  pub weighed : Weighed variables weights

pub record Numbering (p : Problem) (rows images keys heads weights : List ℕ) (variables i k : ℕ) : Type 0 where
  pub imaging : Imaging p rows images variables i k
  pub finder : Finder p keys heads weights variables

-- ---- the count
-- all solutions of p, ascending, and the images of its pairs under its symmetries
pub record Counted (p : Problem) (rows images : List ℕ) (variables symmetries solutions : ℕ) : Type 0 where
  pub lent : Imaged p rows images variables
  pub every : solutions ≡ length (solutions_of p)
  pub each : symmetries ≡ length p.symmetries

pub record Flooding (p : Problem) (rows images keys heads weights : List ℕ) (variables symmetries : ℕ) (seen : List Bool) (queue : List ℕ) (starts count head tail : ℕ) : Type 0 where
  pub lent : Imaged p rows images variables
  pub each : symmetries ≡ length p.symmetries
  pub finder : Finder p keys heads weights variables
  pub walk : Walk p seen queue starts count head 0 tail

pub record Spreading (p : Problem) (rows images keys heads weights : List ℕ) (variables symmetries : ℕ) (seen : List Bool) (queue : List ℕ) (starts count head tail : ℕ) : Type 0 where
  pub flooding : Flooding p rows images keys heads weights variables symmetries seen queue starts count head tail
  pub some : head < tail

-- ---- the same of what the code holds together
abbrev pub NumberingOf : Problem → Solutions → ℕ → ℕ → Type 0
NumberingOf p f i k = Numbering p f.rows.now f.images.now f.keys.now f.heads.now f.weights.now f.variables i k

abbrev pub FloodingOf : Problem → Solutions → List Bool → List ℕ → ℕ → ℕ → ℕ → ℕ → Type 0
FloodingOf p f seen queue starts count head tail =
    Flooding p f.rows.now f.images.now f.keys.now f.heads.now f.weights.now f.variables f.symmetries seen queue starts count head tail

abbrev pub SpreadingOf : Problem → Solutions → List Bool → List ℕ → ℕ → ℕ → ℕ → ℕ → Type 0
SpreadingOf p f seen queue starts count head tail =
    Spreading p f.rows.now f.images.now f.keys.now f.heads.now f.weights.now f.variables f.symmetries seen queue starts count head tail
