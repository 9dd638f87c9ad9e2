-- What the functions of this crate are lent.
use Rattle.std.specs.Prelude.{◌≡◌, List, ℕ, ◌+◌, ◌*◌, ◌≤◌, ◌<◌, Result, length}
use Rattle.model.specs.{Lists.at, Lists.flat, Problem.Problem, Problem.respects, Inner.Filling.Filled, Sheet.words, Sheet.permutes_pairs, Inner.WellFormed.WellFormed}
use Rattle.model.specs.declared.refusals.Question.{Question}
use Rattle.sheet_table.specs.Inner.Table.{Framed, Ready, answer_of}
use Rattle.arrays.specs.{Inner.Layout.Images, Inner.Layout.pair_code_of, Inner.Places.IMAGES, Inner.Places.WIDE}
use Rattle.block.specs.Block.{orderings, factorial, ordering_table}

-- both arrays hold a well-formed problem of at most sixteen symmetries
pub record Held (p : Problem) (numbers supports : List ℕ) : Type 0 where
  pub well_formed : WellFormed p
  pub ready : Ready p numbers supports
  pub symmetries : length p.symmetries ≤ 16

-- the rows of the table, and one that a block of m uses
pub record Row (rows : List ℕ) (row m : ℕ) : Type 0 where
  pub table : rows ≡ flat orderings
  pub some : 2 ≤ m
  pub few : m ≤ 5
  pub used : row < factorial m

-- and a block of m variables of the problem
pub record BlockRow (p : Problem) (rows : List ℕ) (row first m : ℕ) (numbers : List ℕ) : Type 0 where
  pub well_formed : WellFormed p
  pub framed : Framed p numbers
  pub uses : Row rows row m
  pub inside : first + m ≤ p.variables

-- the table of a row as bytes
pub record TableBytes (p : Problem) (first m row : ℕ) (bytes : List ℕ) : Type 0 where
  pub sized : length bytes ≡ 384
  pub table : words bytes 0 (p.variables * p.values) ≡ ordering_table p first m row

-- the first of questions 15 and 16 that a row doesn't pass, if there is one
abbrev pub row_answer : Problem → ℕ → ℕ → ℕ → Result Unit Question
row_answer p first m row = answer_of (permutes_pairs p (ordering_table p first m row)) (respects p (ordering_table p first m row))

-- ---- images
-- the images of a sheet's symmetries stand in front, and nothing else changed
abbrev pub Widened : List ℕ → List ℕ → List ℕ → Type 0
Widened images old new = Filled (λ j. j) (λ j w. w ≡ at images j) IMAGES old new

-- the codes of the images of a row's table stand from `base` on, and nothing else changed
abbrev pub RowPut : Problem → ℕ → ℕ → ℕ → ℕ → List ℕ → List ℕ → Type 0
RowPut p first m row base old new =
    Filled (λ q. base + pair_code_of p.values q) (λ q w. w ≡ pair_code_of p.values (at (ordering_table p first m row) q)) (p.variables * p.values) old new

-- the numbers and the images of a problem
pub record Imaged (p : Problem) (numbers images : List ℕ) : Type 0 where
  pub well_formed : WellFormed p
  pub framed : Framed p numbers
  pub symmetries : length p.symmetries ≤ 16
  pub imaged : Images p images
  pub sized : length images ≡ WIDE

-- all symmetries of a problem have their images, and there are n
pub record Put (p : Problem) (images : List ℕ) (n : ℕ) : Type 0 where
  pub imaged : Images p images
  pub sized : length images ≡ WIDE
  pub all : n ≡ length p.symmetries
  pub few : n ≤ 136

-- so they were put, and all other bytes are as they came
pub record PutOn (p : Problem) (old images : List ℕ) (n : ℕ) : Type 0 where
  pub put : Put p images n
  pub others : (j : ℕ) → ((e x v : ℕ) → e < n → x < p.variables → v < p.values → 192 * e + 16 * x + v ≡ j → ⊥) → at images j ≡ at old j
