-- Sheet A with two exchanges, and the same with these the other way round (specs/Retyped, `SameButOrder`), as one list of statements about the definitions.
-- One theorem says that each holds (proofs/RetypedExamples).
use Rattle.std.specs.Prelude.{◌≡◌, List, [], ◌∷◌, ◌++◌, ℕ, take, drop, replicate}
use Rattle.model.specs.{Verdict.accepted, Sheet.verdict_of, Run.ended, Run.finished, Run.answer_of, Examples.sheet_a2}
use Rattle.run_retyped.specs.Retyped.{SameButOrder}

-- its tables stand from byte 52 on, twelve bytes each
abbrev pub sheet_b2 : List ℕ
sheet_b2 = take 52 sheet_a2 ++ drop 64 sheet_a2 ++ take 12 (drop 52 sheet_a2)

abbrev pub tests_retyped : List (Type 0)
tests_retyped =
    SameButOrder sheet_a2 sheet_b2
    ∷ (verdict_of sheet_a2 ≡ accepted)
    ∷ (verdict_of sheet_b2 ≡ accepted)
    ∷ (answer_of sheet_a2 1000000 (replicate 12 9) ≡ ended (finished 3 6))
    ∷ (answer_of sheet_b2 1000000 (replicate 12 9) ≡ ended (finished 3 6))
    ∷ []
