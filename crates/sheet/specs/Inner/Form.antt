-- What questions 1 to 14 leave in the arrays.
use Rattle.std.specs.Prelude.{◌≡◌, Bool, true, List, ℕ, Result, Ok, Err, length, set}
use Rattle.model.specs.{Lists.at, Verdict.accepted, Sheet.header_of, Sheet.problem_of, Sheet.form_verdict, Sheet.verdict_of, Refusals.verdict_from, declared.refusals.Refusal.Refusal}
use Rattle.arrays.specs.Inner.{Places.VARIABLES, Places.VALUES, Places.CONSTRAINTS, Places.SYMMETRIES, Places.IMAGES, Places.NUMBERS, Places.SUPPORTS, Layout.Numbers, Layout.Supports, Layout.Compiled}
use Rattle.reader.specs.{Inner.Read.stated, declared.Header.Header}
use Rattle.sheet.specs.Meaning.{Answers, compilable}

-- an array of n zeros
pub record Zeros (n : ℕ) (l : List ℕ) : Type 0 where
  pub sized : length l ≡ n
  pub blank : (i : ℕ) → at l i ≡ 0

-- the counts at their places
abbrev pub counted : ℕ → ℕ → ℕ → ℕ → List ℕ → List ℕ
counted n d c g l = set (set (set (set l VARIABLES n) VALUES d) CONSTRAINTS c) SYMMETRIES g

-- a sheet that passed questions 1 to 14, and two arrays that hold its problem
pub record Formed (b : List ℕ) (numbers supports : List ℕ) : Type 0 where
  pub passed : form_verdict b accepted ≡ accepted
  pub numbered : Numbers (problem_of b) numbers
  pub supported : Supports (problem_of b) supports
  pub numbers_length : length numbers ≡ NUMBERS
  pub supports_length : length supports ≡ SUPPORTS

pub record FormAsked (b : List ℕ) (numbers supports : List ℕ) (r : Result Unit Refusal) : Type 0 where
  pub answers : Answers (form_verdict b) (verdict_from r)
  pub formed : r ≡ Ok tt → Formed b numbers supports

-- the same with the header as read
abbrev pub without_header : Result Header Refusal → Result Unit Refusal
without_header (Ok h) = Ok tt
without_header (Err refused_by) = Err refused_by

pub record FormRead (b : List ℕ) (numbers supports : List ℕ) (r : Result Header Refusal) : Type 0 where
  pub asked : FormAsked b numbers supports (without_header r)
  pub headed : (h : Header) → r ≡ Ok h → stated h ≡ header_of b

-- the arrays have their lengths
pub record Sized (numbers supports images : List ℕ) : Type 0 where
  pub numbers_length : length numbers ≡ NUMBERS
  pub supports_length : length supports ≡ SUPPORTS
  pub images_length : length images ≡ IMAGES

-- the answer to all questions, and the compiled problem of an accepted sheet
pub record Compilation (b : List ℕ) (numbers supports images : List ℕ) (r : Result Unit Refusal) : Type 0 where
  pub answers : verdict_from r ≡ verdict_of b
  pub compiled : r ≡ Ok tt → Compiled (problem_of b) numbers supports images
  pub sizes : r ≡ Ok tt → Sized numbers supports images

-- whether they do, and then the compiled problem
pub record Recompilation (b : List ℕ) (numbers supports images : List ℕ) (r : Bool) : Type 0 where
  pub answers : r ≡ compilable b
  pub compiled : r ≡ true → Compiled (problem_of b) numbers supports images
  pub sizes : r ≡ true → Sized numbers supports images
