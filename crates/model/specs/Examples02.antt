-- The examples of paper 02, as one list of statements about the definitions. One theorem says that each holds (proofs/Examples02).
use Rattle.std.specs.Prelude.{◌≡◌, List, [], ◌∷◌, replicate}
use Rattle.model.specs.{Nogood.failed, Nogood.entailed, Nogood.consistent, Nogood.entries, Nogood.filter_ending, Run.tally_of, Examples.index4, Examples.equal4, Examples.unequal4, Examples.sheet_a}

abbrev pub tests02 : List (Type 0)
tests02 =
    -- #102: 001's four nogoods are entailed by what the filter leaves of the first example's sets, not by the second's; "not 0" fails the set {0}
    (filter_ending (6 ∷ 6 ∷ 6 ∷ 2 ∷ 2 ∷ 6 ∷ []) (entries index4 equal4 unequal4) ≡ entailed)
    ∷ (filter_ending (6 ∷ 6 ∷ 6 ∷ 2 ∷ 6 ∷ 6 ∷ []) (entries index4 equal4 unequal4) ≡ consistent)
    ∷ (filter_ending (1 ∷ []) (entries (0 ∷ []) (255 ∷ []) (0 ∷ [])) ≡ failed)
    -- #107: for sheet A the trials by place are 3 and 3
    ∷ (tally_of sheet_a 1000000 (replicate 8 9) (record { nodes = 5; counts = replicate 12 7 })
    ≡ record { nodes = 6; counts = 3 ∷ 3 ∷ 0 ∷ 0 ∷ 0 ∷ 0 ∷ 0 ∷ 0 ∷ 0 ∷ 0 ∷ 0 ∷ 0 ∷ [] })
    -- a refusal leaves it as it came
    ∷ (tally_of [] 1000000 [] (record { nodes = 5; counts = replicate 12 7 }) ≡ record { nodes = 5; counts = replicate 12 7 })
    ∷ []
