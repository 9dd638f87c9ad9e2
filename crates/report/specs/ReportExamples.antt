-- Reports of paper 01's sheet A and of paper 02's rotation, as one list of statements about the definitions. One theorem says that each holds
-- (proofs/ReportExamples).
use Rattle.std.specs.Prelude.{◌≡◌, List, [], ◌∷◌}
use Rattle.model.specs.Examples.{sheet_a, sheet_r}
use Rattle.report.specs.Report.{report_of}

abbrev pub tests_report : List (Type 0)
tests_report =
    -- A: plan 0 1, plan 0 2, plan 1 2, finished 3 6 3
    (report_of sheet_a ≡ 112 ∷ 108 ∷ 97 ∷ 110 ∷ 32 ∷ 48 ∷ 32 ∷ 49 ∷ 10
    ∷ 112 ∷ 108 ∷ 97 ∷ 110 ∷ 32 ∷ 48 ∷ 32 ∷ 50 ∷ 10
    ∷ 112 ∷ 108 ∷ 97 ∷ 110 ∷ 32 ∷ 49 ∷ 32 ∷ 50 ∷ 10
    ∷ 102 ∷ 105 ∷ 110 ∷ 105 ∷ 115 ∷ 104 ∷ 101 ∷ 100 ∷ 32 ∷ 51 ∷ 32 ∷ 54 ∷ 32 ∷ 51 ∷ 10 ∷ [])
    -- the rotation of three windows: plan 0 1 2, plan 0 2 1, plan 1 2 0, finished 3 9 2
    ∷ (report_of sheet_r ≡ 112 ∷ 108 ∷ 97 ∷ 110 ∷ 32 ∷ 48 ∷ 32 ∷ 49 ∷ 32 ∷ 50 ∷ 10
    ∷ 112 ∷ 108 ∷ 97 ∷ 110 ∷ 32 ∷ 48 ∷ 32 ∷ 50 ∷ 32 ∷ 49 ∷ 10
    ∷ 112 ∷ 108 ∷ 97 ∷ 110 ∷ 32 ∷ 49 ∷ 32 ∷ 50 ∷ 32 ∷ 48 ∷ 10
    ∷ 102 ∷ 105 ∷ 110 ∷ 105 ∷ 115 ∷ 104 ∷ 101 ∷ 100 ∷ 32 ∷ 51 ∷ 32 ∷ 57 ∷ 32 ∷ 50 ∷ 10 ∷ [])
    ∷ []
