-- Figures of paper 01's sheets and of paper 02's rotation, as one list of statements about the definitions. One theorem says that each holds
-- (proofs/FigureExamples).
use Rattle.std.specs.Prelude.{◌≡◌, List, [], ◌∷◌}
use Rattle.model.specs.Examples.{sheet_a, sheet_a0, sheet_r}
use Rattle.families_figure.specs.Figure.{number, dash, bare_sheet, families_lent}

abbrev pub tests_figure : List (Type 0)
tests_figure =
    -- A: 3 families, without its exchange 6
    (families_lent sheet_a [] [] 1000000 8192 ≡ number 3)
    ∷ (families_lent sheet_a0 [] [] 1000000 8192 ≡ number 6)
    -- the rotation of three windows: 2, not 3, in any order
    ∷ (families_lent sheet_r [] [] 1000000 12288 ≡ number 2)
    ∷ (families_lent sheet_r (2 ∷ 0 ∷ []) [] 1000000 12288 ≡ number 2)
    -- the run of A is finished after 6 trials, the one without its exchange only after 9
    ∷ (families_lent sheet_a [] [] 8 8192 ≡ dash)
    ∷ (families_lent sheet_a [] [] 9 8192 ≡ number 3)
    -- and it has 6 plans of two bytes
    ∷ (families_lent sheet_a [] [] 1000000 11 ≡ dash)
    ∷ (families_lent sheet_a [] [] 1000000 12 ≡ number 3)
    -- the sheet without its exchange
    ∷ (bare_sheet sheet_a ≡ sheet_a0)
    ∷ []
