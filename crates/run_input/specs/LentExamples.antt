-- Runs that are lent pairs and a block (paper 02, #108, #107 and #111), as one list of statements about the definitions. One theorem says that each holds (proofs/LentExamples).
use Rattle.std.specs.Prelude.{◌≡◌, List, [], ◌∷◌, ℕ, replicate}
use Rattle.model.specs.{Verdict.accepted, Verdict.refused, Run.ended, Run.finished, Run.Tally, Examples.sheet_a, Examples.sheet_a0, Examples.sheet_r, Examples.sheet_f}
use Rattle.run_input.specs.Lent.{verdict_lent, answer_lent, plans_lent, tally_lent}

abbrev room : List ℕ
room = replicate 18 9

-- a tally as it came
abbrev came : Tally
came = record { nodes = 5; counts = replicate 12 7 }

abbrev pub tests_lent : List (Type 0)
tests_lent =
    -- sheet A, 1 before 0: three plans in the order 1, 0, and the trials by place are 3 and 3 as without pairs
    (answer_lent sheet_a (1 ∷ 0 ∷ []) [] 1000000 room ≡ ended (finished 3 6))
    ∷ (plans_lent sheet_a (1 ∷ 0 ∷ []) [] 1000000 room (finished 3 6) ≡ (1 ∷ 0 ∷ []) ∷ (2 ∷ 0 ∷ []) ∷ (2 ∷ 1 ∷ []) ∷ [])
    ∷ (tally_lent sheet_a (1 ∷ 0 ∷ []) [] 1000000 room came ≡ record { nodes = 6; counts = 3 ∷ 3 ∷ 0 ∷ 0 ∷ 0 ∷ 0 ∷ 0 ∷ 0 ∷ 0 ∷ 0 ∷ 0 ∷ 0 ∷ [] })
    -- the rotation of three places, 2 before 0: the order is 1, 2, 0
    ∷ (answer_lent sheet_r (2 ∷ 0 ∷ []) [] 1000000 room ≡ ended (finished 3 9))
    ∷ (plans_lent sheet_r (2 ∷ 0 ∷ []) [] 1000000 room (finished 3 9) ≡ (2 ∷ 0 ∷ 1 ∷ []) ∷ (1 ∷ 0 ∷ 2 ∷ []) ∷ (0 ∷ 1 ∷ 2 ∷ []) ∷ [])
    -- three places, two values, no rule, the same rotation; 2 before 1 before 0: 11 trials, one more than without pairs, by place number 5, 4 and 2
    ∷ (answer_lent sheet_f (2 ∷ 1 ∷ 1 ∷ 0 ∷ []) [] 1000000 room ≡ ended (finished 5 11))
    ∷ (plans_lent sheet_f (2 ∷ 1 ∷ 1 ∷ 0 ∷ []) [] 1000000 room (finished 5 11) ≡ (0 ∷ 0 ∷ 0 ∷ []) ∷ (1 ∷ 0 ∷ 0 ∷ []) ∷ (1 ∷ 1 ∷ 0 ∷ []) ∷ (1 ∷ 0 ∷ 1 ∷ []) ∷ (1 ∷ 1 ∷ 1 ∷ []) ∷ [])
    ∷ (tally_lent sheet_f (2 ∷ 1 ∷ 1 ∷ 0 ∷ []) [] 1000000 room came ≡ record { nodes = 11; counts = 5 ∷ 4 ∷ 2 ∷ 0 ∷ 0 ∷ 0 ∷ 0 ∷ 0 ∷ 0 ∷ 0 ∷ 0 ∷ 0 ∷ [] })
    ∷ (answer_lent sheet_f [] [] 1000000 room ≡ ended (finished 5 10))
    -- the sheet's refusal first; half a pair; more than 64; a place that isn't there; a place before itself; a circle of two; a pair twice is no circle
    ∷ (verdict_lent [] (0 ∷ []) (0 ∷ []) ≡ refused 1 0)
    ∷ (verdict_lent sheet_a (0 ∷ []) (0 ∷ []) ≡ refused 28 0)
    ∷ (verdict_lent sheet_a (replicate 130 9) (0 ∷ []) ≡ refused 28 0)
    ∷ (verdict_lent sheet_a (0 ∷ 2 ∷ []) (0 ∷ []) ≡ refused 29 0)
    ∷ (verdict_lent sheet_a (0 ∷ 0 ∷ []) (0 ∷ []) ≡ refused 30 0)
    ∷ (verdict_lent sheet_a (0 ∷ 1 ∷ 1 ∷ 0 ∷ []) (0 ∷ []) ≡ refused 30 0)
    ∷ (verdict_lent sheet_a (0 ∷ 1 ∷ 0 ∷ 1 ∷ []) [] ≡ accepted)
    -- one byte, three bytes, a block of one place, a block past the last place
    ∷ (verdict_lent sheet_a (0 ∷ 1 ∷ []) (0 ∷ []) ≡ refused 36 0)
    ∷ (verdict_lent sheet_a [] (0 ∷ 2 ∷ 0 ∷ []) ≡ refused 36 0)
    ∷ (verdict_lent sheet_a [] (0 ∷ 1 ∷ []) ≡ refused 36 0)
    ∷ (verdict_lent sheet_a [] (1 ∷ 2 ∷ []) ≡ refused 36 0)
    -- A without its exchange and a block of both places is A
    ∷ (answer_lent sheet_a0 [] (0 ∷ 2 ∷ []) 1000000 room ≡ ended (finished 3 6))
    ∷ (plans_lent sheet_a0 [] (0 ∷ 2 ∷ []) 1000000 room (finished 3 6) ≡ (0 ∷ 1 ∷ []) ∷ (0 ∷ 2 ∷ []) ∷ (1 ∷ 2 ∷ []) ∷ [])
    -- three places, any two different, in one block: one plan is left
    ∷ (answer_lent sheet_r [] (0 ∷ 3 ∷ []) 1000000 room ≡ ended (finished 1 6))
    ∷ (plans_lent sheet_r [] (0 ∷ 3 ∷ []) 1000000 room (finished 1 6) ≡ (0 ∷ 1 ∷ 2 ∷ []) ∷ [])
    -- settled 2, 1, 0, the block of places 1 and 2 ascends in that order: the later place 1 is no smaller than 2
    ∷ (answer_lent sheet_f (2 ∷ 1 ∷ 1 ∷ 0 ∷ []) (1 ∷ 2 ∷ []) 1000000 room ≡ ended (finished 4 9))
    ∷ (plans_lent sheet_f (2 ∷ 1 ∷ 1 ∷ 0 ∷ []) (1 ∷ 2 ∷ []) 1000000 room (finished 4 9) ≡ (0 ∷ 0 ∷ 0 ∷ []) ∷ (1 ∷ 0 ∷ 0 ∷ []) ∷ (1 ∷ 1 ∷ 0 ∷ []) ∷ (1 ∷ 1 ∷ 1 ∷ []) ∷ [])
    ∷ []
