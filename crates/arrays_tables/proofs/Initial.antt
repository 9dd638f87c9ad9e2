-- The initial sets, as the code reads them. Assumes nothing.
use Rattle.model.specs.Kit.{◌≡◌, ap, ◌∙◌, List, ℕ, ◌%◌, ◌<◌, mod-eq_of_lt}
use Rattle.model.specs.{Lists.at, Problem.Problem, Inner.WellFormed.WellFormed}
use Rattle.model.proofs.Tree.{well_sized}
use Rattle.arrays.specs.Inner.Layout.{Numbers}
use Rattle.arrays_tables.specs.Inner.Steps.{initial_of}

pub initial_is : (p : Problem) (numbers : List ℕ) → WellFormed p → Numbers p numbers → (x : ℕ) → x < p.variables → initial_of numbers x ≡ at p.initial x
initial_is p numbers wf nb x h = ap (λ (z : ℕ). z % 65536) (nb.initial x h) ∙ mod-eq_of_lt ((well_sized p wf).1 x)
