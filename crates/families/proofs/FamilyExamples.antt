-- The families of paper 01's examples, by computation. Assumes nothing.
use Rattle.model.specs.Kit.{◌≡◌, refl, ℕ}
use Rattle.model.specs.{Lists.all, Lists.any, Lists.keep, Lists.flat, Lists.tabulate, Lists.up_from, Lists.below, Lists.at, Lists.same, Lists.earlier, ValueSets.has, ValueSets.members}
use Rattle.model.specs.{ValueSets.least}
use Rattle.model.specs.{Problem.values_at, Problem.satisfies, Problem.is_solution, Problem.assignments, Problem.pair, Problem.pairs_of, Problem.within, Problem.takes, Sheet.word, Sheet.words}
use Rattle.model.specs.{Sheet.header_of, Sheet.scope_at, Sheet.rows_at, Sheet.after_at, Sheet.constraints_from, Sheet.table_at, Sheet.problem_of, Examples.sheet_a, Examples.sheet_a0, Examples.sheet_r}
use Rattle.families.specs.Families.{solutions_of, widened, reached_in, family_of, is_earliest, earliest_of, families_of}
use Rattle.families.specs.Inner.Walk.{solution_at, image_at}

opened : ℕ
unfolding all any keep flat tabulate up_from below at same earlier has members least values_at satisfies is_solution assignments pair pairs_of within takes word words header_of scope_at rows_at
    after_at
    constraints_from table_at problem_of solutions_of widened reached_in family_of is_earliest earliest_of families_of solution_at image_at
opened = 0

-- A: 3 families; without its symmetry each of its 6 solutions is one
pub families_a : families_of (problem_of sheet_a) ≡ 3
unfolding opened
families_a = refl

pub families_a0 : families_of (problem_of sheet_a0) ≡ 6
unfolding opened
families_a0 = refl

-- the rotation of three variables: 2 families, though its run lists 3 solutions
pub families_r : families_of (problem_of sheet_r) ≡ 2
unfolding opened
families_r = refl

-- the rotation takes 012, solution 0, to 201, solution 4
pub image_r : image_at (problem_of sheet_r) 0 0 ≡ 4
unfolding opened
image_r = refl
