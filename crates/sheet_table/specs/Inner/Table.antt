-- Questions 15 and 16 for one table (paper 01): what is known of the problem before they are asked, and their answer.
use Rattle.std.specs.Prelude.{Bool, true, false, List, ℕ, ◌+◌, ◌*◌, ◌≤◌, Result, Ok, Err, length}
use Rattle.model.specs.{Problem.Problem, Problem.respects, Sheet.words, Sheet.permutes_pairs, Inner.WellFormed.Stated}
use Rattle.model.specs.declared.refusals.{Question.Question, Question.TheVariants.PairsPermuted, Question.TheVariants.Respected}
use Rattle.arrays.specs.Inner.Layout.{Numbers, Supports}

-- the numbers hold those of the problem
pub record Framed (p : Problem) (numbers : List ℕ) : Type 0 where
  pub stated : Stated p
  pub numbered : Numbers p numbers

-- both arrays hold the problem
pub record Ready (p : Problem) (numbers supports : List ℕ) : Type 0 where
  pub framed : Framed p numbers
  pub supported : Supports p supports

-- a table stands whole at an offset of the sheet
abbrev pub Whole : Problem → List ℕ → ℕ → Type 0
Whole p sheet offset = offset + 2 * (p.variables * p.values) ≤ length sheet

pub record TableAt (p : Problem) (sheet : List ℕ) (offset : ℕ) (numbers : List ℕ) : Type 0 where
  pub framed : Framed p numbers
  pub whole : Whole p sheet offset

pub record Asked (p : Problem) (sheet : List ℕ) (offset : ℕ) (numbers supports : List ℕ) : Type 0 where
  pub ready : Ready p numbers supports
  pub whole : Whole p sheet offset

abbrev pub table_of : Problem → List ℕ → ℕ → List ℕ
table_of p sheet offset = words sheet offset (p.variables * p.values)

abbrev pub answer_of : Bool → Bool → Result Unit Question
answer_of false respectful = Err PairsPermuted
answer_of true false = Err Respected
answer_of true true = Ok tt

-- the first question whose answer is no, if there is one
abbrev pub table_answer : Problem → List ℕ → ℕ → Result Unit Question
table_answer p sheet offset = answer_of (permutes_pairs p (table_of p sheet offset)) (respects p (table_of p sheet offset))
