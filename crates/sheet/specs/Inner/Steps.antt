-- What asking one constraint, and all of them, says.
use Rattle.std.specs.Prelude.{◌≡◌, List, ℕ, zero, suc, ◌≤◌, Result, Ok, Err}
use Rattle.model.specs.{Verdict.Verdict, Verdict.refused, Sheet.header_of, Sheet.after_at, Sheet.constraint_verdict, Sheet.constraints_verdict}
use Rattle.model.specs.{Refusals.number_of, Refusals.verdict_from, declared.refusals.Question.Question, declared.refusals.Refusal.Refusal}
use Rattle.sheet.specs.{Inner.Fill.numbers_with, Inner.Fill.supports_with, Meaning.Answers}

-- ---- one constraint
-- the answer for constraint k, which is where the next stands if there is no "no", and what is asked after it
abbrev pub step_then : Result ℕ Question → ℕ → Verdict → Verdict
step_then (Ok next) k later = later
step_then (Err asked) k later = refused (number_of asked) k

pub record ConstraintAsked (b : List ℕ) (o k : ℕ) (numbers supports numbers' supports' : List ℕ) (r : Result ℕ Question) : Type 0 where
  pub answers : (later : Verdict) → constraint_verdict b (header_of b) k o later ≡ step_then r k later
  pub next : (o' : ℕ) → r ≡ Ok o' → o' ≡ after_at b o
  pub inside : (o' : ℕ) → r ≡ Ok o' → o' ≤ (header_of b).third
  pub scoped : (o' : ℕ) → r ≡ Ok o' → numbers' ≡ numbers_with b o k numbers
  pub supported : (o' : ℕ) → r ≡ Ok o' → supports' ≡ supports_with b o k supports

-- ---- all constraints
-- where constraint k stands, the first being at an offset
unfoldable pub offset_at : List ℕ → ℕ → ℕ → ℕ
offset_at b o zero = o
offset_at b o (suc k) = after_at b (offset_at b o k)

-- the numbers and the support sets with k constraints
unfoldable pub numbers_to : List ℕ → ℕ → ℕ → List ℕ → List ℕ
numbers_to b o zero l = l
numbers_to b o (suc k) l = numbers_with b (offset_at b o k) k (numbers_to b o k l)

unfoldable pub supports_to : List ℕ → ℕ → ℕ → List ℕ → List ℕ
supports_to b o zero l = l
supports_to b o (suc k) l = supports_with b (offset_at b o k) k (supports_to b o k l)

abbrev pub constraints_asked : List ℕ → Verdict → Verdict
constraints_asked b later = constraints_verdict b (header_of b) (header_of b).constraints 0 (header_of b).second later

pub record ConstraintsAsked (b : List ℕ) (numbers supports numbers' supports' : List ℕ) (r : Result Unit Refusal) : Type 0 where
  pub answers : Answers (constraints_asked b) (verdict_from r)
  pub scoped : r ≡ Ok tt → numbers' ≡ numbers_to b (header_of b).second (header_of b).constraints numbers
  pub supported : r ≡ Ok tt → supports' ≡ supports_to b (header_of b).second (header_of b).constraints supports
