-- Worked cases of "at least m plans?" on sheet A, by computation. Assumes nothing.
use Rattle.model.specs.Kit.{◌≡◌, refl}
use Rattle.model.specs.{Sheet.problem_of, Examples.sheet_a}
use Rattle.model.proofs.Examples.{opened}
use Rattle.run_enough.specs.AtLeast.{enough, too_few, unknown, nodes_to, enough_of}

-- its nodes are 0, 01, 02, 1, 12, 2: the second plan is the third node
pub at_the_second : enough_of (problem_of sheet_a) 1000000 2 ≡ enough 2 3
unfolding opened nodes_to enough_of
at_the_second = refl

-- a fourth is not there: three plans, and all six nodes, of a limit that allows more
pub no_fourth : enough_of (problem_of sheet_a) 1000000 4 ≡ too_few 3 6
unfolding opened nodes_to enough_of
no_fourth = refl

-- two nodes show one plan
pub spent_before : enough_of (problem_of sheet_a) 2 2 ≡ unknown 1 2
unfolding opened nodes_to enough_of
spent_before = refl
