-- Exchanges that are closed, and some that are not, as one list of statements about the definitions. One theorem says that each holds
-- (proofs/ClosedExamples).
use Rattle.std.specs.Prelude.{◌≡◌, List, [], ◌∷◌}
use Rattle.model.specs.{Sheet.problem_of, Examples.sheet_a, Examples.sheet_a0, Examples.sheet_a3, Examples.sheet_r}
use Rattle.run_input.specs.Lent.{problem_with}
use Rattle.families.specs.Families.{Closed}
use Rattle.families_closed.specs.{Open.none, Open.two, Open.first_open, Lent.refusal, Lent.told, Lent.closed_lent}

abbrev pub tests_closed : List (Type 0)
tests_closed =
    -- A's exchange twice moves nothing
    Closed (problem_of sheet_a)
    ∷ (closed_lent sheet_a [] [] ≡ told none)
    -- the rotation of three places twice is no exchange of its sheet
    ∷ (closed_lent sheet_r [] [] ≡ told (two 0 0))
    -- A with three exchanges: values 0 and 1 traded, and then the places, is none of them
    ∷ (first_open (problem_of sheet_a3) ≡ two 1 2)
    -- a block of both places, with no exchange of the sheet
    ∷ Closed (problem_with sheet_a0 (0 ∷ 2 ∷ []))
    ∷ (closed_lent sheet_a0 [] (0 ∷ 2 ∷ []) ≡ told none)
    -- a refusal is the run's
    ∷ (closed_lent sheet_a (0 ∷ []) [] ≡ refusal 28 0)
    ∷ []
