-- What the functions are lent: the images of the pairs of a problem.
use Rattle.std.specs.Prelude.{◌≡◌, List, ℕ, ◌≤◌, length}
use Rattle.model.specs.{Problem.Problem, Inner.WellFormed.WellFormed, Verdict.accepted, Sheet.problem_of}
use Rattle.arrays.specs.{Inner.Layout.Numbers, Inner.Layout.Images, Inner.Places.IMAGES}
use Rattle.run_input.specs.Lent.{verdict_lent}

pub record Held (p : Problem) (images : List ℕ) (variables values : ℕ) : Type 0 where
  pub good : WellFormed p
  pub some : length p.symmetries ≤ 136
  pub imaged : Images p images
  pub variables_is : variables ≡ p.variables
  pub values_is : values ≡ p.values

-- what the test is lent once all questions of a run are passed: the arrays of the sheet's problem
pub record Passed (b pairs block numbers images : List ℕ) : Type 0 where
  pub verdict : verdict_lent b pairs block ≡ accepted
  pub numbered : Numbers (problem_of b) numbers
  pub imaged : Images (problem_of b) images
  pub sized : length images ≡ IMAGES
