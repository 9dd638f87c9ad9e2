-- The starred examples of paper 01, all of them, as one list of statements about the definitions.
-- One theorem says that each holds (proofs/Examples).
use Rattle.std.specs.Prelude.{◌≡◌, true, false, List, [], ◌∷◌, ◌++◌, map, ℕ, ◌^◌, ◌≤◌, ◌<◌, length, replicate}
use Rattle.model.specs.Run.{Answer, refusal, answered, ended, finished, spent, full, answer_of, list_of}
use Rattle.model.specs.{Lists.flat, Lists.at, Bytes.two_bytes, ValueSets.any_empty, Verdict.Verdict, Verdict.accepted, Nogood.entries, Nogood.filter_verdict, Nogood.sets_after, Sheet.verdict_of}
use Rattle.model.specs.{Sheet.problem_of, Search.sets_at, Search.nodes, Search.is_live, Claims.plans_held, Claims.OneMore}

-- each of the statements holds
abbrev pub Each : List (Type 0) → Type 0
Each [] = Unit {0}
Each (t ∷ ts) = t × Each ts

-- ---- the filter: what it answers and leaves of the sets, given the three lists index, equal, not-equal
abbrev pub filter_of : List ℕ → List ℕ → List ℕ → List ℕ → Verdict × List ℕ
filter_of ds xs es us = (filter_verdict ds xs es us, sets_after (filter_verdict ds xs es us) ds (entries xs es us))

-- 001's four nogoods: x1 ≠ 2; x2 = 1 ⇒ x3 ≠ 1; x2 = x4 = x5 = 1 ⇒ x3 ≠ 2; those and x6 = 2 ⇒ x1 ≠ 1
abbrev pub index4 : List ℕ
index4 = 0 ∷ 1 ∷ 2 ∷ 3 ∷ 4 ∷ 2 ∷ 5 ∷ 0 ∷ []

abbrev pub equal4 : List ℕ
equal4 = 255 ∷ 1 ∷ 255 ∷ 1 ∷ 1 ∷ 255 ∷ 2 ∷ 255 ∷ []

abbrev pub unequal4 : List ℕ
unequal4 = 2 ∷ 255 ∷ 1 ∷ 255 ∷ 255 ∷ 2 ∷ 255 ∷ 1 ∷ []

-- ---- sheets, from their 16-bit numbers
abbrev bytes : List ℕ → List ℕ
bytes ws = flat (map two_bytes ws)

-- x and y differ, both below 3
abbrev differ : ℕ → ℕ → List ℕ
differ x y = 2 ∷ 6 ∷ x ∷ y ∷ 0 ∷ 1 ∷ 0 ∷ 2 ∷ 1 ∷ 0 ∷ 1 ∷ 2 ∷ 2 ∷ 0 ∷ 2 ∷ 1 ∷ []

abbrev pub sheet_a : List ℕ
sheet_a = bytes ((2 ∷ 3 ∷ 1 ∷ 1 ∷ 16 ∷ 20 ∷ 52 ∷ 64 ∷ 7 ∷ 7 ∷ []) ++ differ 0 1 ++ (3 ∷ 4 ∷ 5 ∷ 0 ∷ 1 ∷ 2 ∷ []))

-- A with g = 0
abbrev pub sheet_a0 : List ℕ
sheet_a0 = bytes ((2 ∷ 3 ∷ 1 ∷ 0 ∷ 16 ∷ 20 ∷ 52 ∷ 52 ∷ 7 ∷ 7 ∷ []) ++ differ 0 1)

-- three places, three values, every two places different; the exchange takes (i, v) to (i + 1, v), place 2 to place 0
abbrev pub sheet_r : List ℕ
sheet_r = bytes ((3 ∷ 3 ∷ 3 ∷ 1 ∷ 16 ∷ 22 ∷ 118 ∷ 136 ∷ 7 ∷ 7 ∷ 7 ∷ []) ++ differ 0 1 ++ differ 0 2 ++ differ 1 2 ++ (3 ∷ 4 ∷ 5 ∷ 6 ∷ 7 ∷ 8 ∷ 0 ∷ 1 ∷ 2 ∷ []))

-- n = 1, d = 1, no rule
abbrev pub sheet1 : List ℕ
sheet1 = bytes (1 ∷ 1 ∷ 0 ∷ 0 ∷ 16 ∷ 18 ∷ 18 ∷ 18 ∷ 1 ∷ [])

-- one rule without rows on it
abbrev pub sheet1_none : List ℕ
sheet1_none = bytes (1 ∷ 1 ∷ 1 ∷ 0 ∷ 16 ∷ 18 ∷ 24 ∷ 24 ∷ 1 ∷ 1 ∷ 0 ∷ 0 ∷ [])

-- ---- runs: the answer, and the plans listed, given an allowance and room for so many bytes
abbrev room : ℕ → List ℕ
room k = replicate k 9

abbrev held_after : Answer → List ℕ → ℕ → List ℕ → List (List ℕ)
held_after (refusal number item) b limit out = []
held_after (answered e) b limit out = plans_held b limit out e

abbrev pub run : List ℕ → ℕ → ℕ → Answer × List (List ℕ)
run b limit k = (answer_of b limit (room k), held_after (answer_of b limit (room k)) b limit (room k))

-- the starred examples
abbrev pub tests : List (Type 0)
tests =
    -- 001's four nogoods. Sets x1, x2, x3, x6 {1,2}, x4, x5 {1}. Left: x1 {1}, x2 {2}, the others as lent
    (filter_of (6 ∷ 6 ∷ 6 ∷ 2 ∷ 2 ∷ 6 ∷ []) index4 equal4 unequal4 ≡ (accepted, 2 ∷ 4 ∷ 6 ∷ 2 ∷ 2 ∷ 6 ∷ []))
    -- the same with x5 {1,2}: only 2 goes, from x1
    ∷ (filter_of (6 ∷ 6 ∷ 6 ∷ 2 ∷ 6 ∷ 6 ∷ []) index4 equal4 unequal4 ≡ (accepted, 2 ∷ 6 ∷ 6 ∷ 2 ∷ 6 ∷ 6 ∷ []))
    -- empty lists take nothing from non-empty sets
    ∷ ((ds : List ℕ) → 1 ≤ length ds → length ds ≤ 12 → ((x : ℕ) → at ds x < 2 ^ 16) → any_empty ds ≡ false → filter_of ds [] [] [] ≡ (accepted, ds))
    -- set {0} and nogood "not 0": empty
    ∷ (filter_of (1 ∷ []) (0 ∷ []) (255 ∷ []) (0 ∷ []) ≡ (accepted, 0 ∷ []))
    -- A: accepted, the trials 0, 01, 02, 1, 12, 2, the last dead, the plans 01, 02, 12 and the ending
    ∷ (verdict_of sheet_a ≡ accepted)
    ∷ (nodes (problem_of sheet_a) ≡ (0 ∷ []) ∷ (0 ∷ 1 ∷ []) ∷ (0 ∷ 2 ∷ []) ∷ (1 ∷ []) ∷ (1 ∷ 2 ∷ []) ∷ (2 ∷ []) ∷ [])
    ∷ (map (is_live (problem_of sheet_a)) (nodes (problem_of sheet_a)) ≡ true ∷ true ∷ true ∷ true ∷ true ∷ false ∷ [])
    ∷ (run sheet_a 1000000 8 ≡ (ended (finished 3 6), (0 ∷ 1 ∷ []) ∷ (0 ∷ 2 ∷ []) ∷ (1 ∷ 2 ∷ []) ∷ []))
    -- the list's bytes, those after the plans unchanged
    ∷ (list_of sheet_a 1000000 (room 8) ≡ 0 ∷ 1 ∷ 0 ∷ 2 ∷ 1 ∷ 2 ∷ 9 ∷ 9 ∷ [])
    -- A with g = 0: 6 plans, 9 trials
    ∷ (answer_of sheet_a0 1000000 (room 12) ≡ ended (finished 6 9))
    -- A, allowance 2: 01, spent, 1 plan, 2 trials
    ∷ (run sheet_a 2 8 ≡ (ended (spent 1 2), (0 ∷ 1 ∷ []) ∷ []))
    -- allowance 5: 3 plans, spent
    ∷ (answer_of sheet_a 5 (room 8) ≡ ended (spent 3 5))
    -- allowance 6: finished
    ∷ (answer_of sheet_a 6 (room 8) ≡ ended (finished 3 6))
    -- A, room for one plan: full, 1 plan, 3 trials
    ∷ (answer_of sheet_a 1000000 (room 2) ≡ ended (full 1 3))
    -- room 0, allowance 2: full, 0 plans, 2 trials
    ∷ (answer_of sheet_a 2 [] ≡ ended (full 0 2))
    -- the rotation of three places. Listed: 012, 021, 120
    ∷ ((run sheet_r 1000000 18).1 ≡ (0 ∷ 1 ∷ 2 ∷ []) ∷ (0 ∷ 2 ∷ 1 ∷ []) ∷ (1 ∷ 2 ∷ 0 ∷ []) ∷ [])
    -- n = 1, d = 1, no rule: one plan, one trial
    ∷ (answer_of sheet1 1000000 (room 1) ≡ ended (finished 1 1))
    -- one rule without rows on it: finished, 0 plans, 0 trials
    ∷ (answer_of sheet1_none 1000000 (room 1) ≡ ended (finished 0 0))
    ∷ []

-- ---- beside the paper's examples
-- three places, two values, no rule, and the rotation: here nogoods wait for an equality that can hold
abbrev pub sheet_f : List ℕ
sheet_f = bytes (3 ∷ 2 ∷ 0 ∷ 1 ∷ 16 ∷ 22 ∷ 22 ∷ 34 ∷ 3 ∷ 3 ∷ 3 ∷ 2 ∷ 3 ∷ 4 ∷ 5 ∷ 0 ∷ 1 ∷ [])

-- the exchanges of sheet A as bytes: its own, one that moves nothing, and one that trades the values 0 and 1
abbrev pub places_traded : List ℕ
places_traded = bytes (3 ∷ 4 ∷ 5 ∷ 0 ∷ 1 ∷ 2 ∷ [])

abbrev nothing_moved : List ℕ
nothing_moved = bytes (0 ∷ 1 ∷ 2 ∷ 3 ∷ 4 ∷ 5 ∷ [])

abbrev pub values_traded : List ℕ
values_traded = bytes (1 ∷ 0 ∷ 2 ∷ 4 ∷ 3 ∷ 5 ∷ [])

-- A with two exchanges, and with a third between them
abbrev pub sheet_a2 : List ℕ
sheet_a2 = bytes ((2 ∷ 3 ∷ 1 ∷ 2 ∷ 16 ∷ 20 ∷ 52 ∷ 76 ∷ 7 ∷ 7 ∷ []) ++ differ 0 1) ++ nothing_moved ++ places_traded

abbrev pub sheet_a3 : List ℕ
sheet_a3 = bytes ((2 ∷ 3 ∷ 1 ∷ 3 ∷ 16 ∷ 20 ∷ 52 ∷ 88 ∷ 7 ∷ 7 ∷ []) ++ differ 0 1) ++ nothing_moved ++ values_traded ++ places_traded

-- one exchange more: sheet A beside A with g = 0, and a table between two others; both stay accepted, and with three exchanges the run lists 2 of the 3 plans
abbrev pub tests_more : List (Type 0)
tests_more =
    OneMore sheet_a0 sheet_a 0 places_traded
    ∷ OneMore sheet_a2 sheet_a3 1 values_traded
    ∷ (verdict_of sheet_a2 ≡ accepted)
    ∷ (verdict_of sheet_a3 ≡ accepted)
    ∷ (answer_of sheet_a2 1000000 (room 12) ≡ ended (finished 3 6))
    ∷ (answer_of sheet_a3 1000000 (room 12) ≡ ended (finished 2 5))
    ∷ []

-- three places, of which the first has one value; the others follow from it one by one, so the sets take more rounds than one
abbrev pub sheet_c : List ℕ
sheet_c = bytes ((3 ∷ 3 ∷ 2 ∷ 0 ∷ 16 ∷ 22 ∷ 86 ∷ 86 ∷ 1 ∷ 3 ∷ 3 ∷ []) ++ differ 0 1 ++ differ 1 2)

-- and a run that is spent before its first plan, of a sheet that has plans
abbrev pub tests_beside : List (Type 0)
tests_beside =
    (verdict_of sheet_c ≡ accepted)
    ∷ (sets_at (problem_of sheet_c) [] ≡ 1 ∷ 2 ∷ 1 ∷ [])
    ∷ (answer_of sheet_a 1 (room 8) ≡ ended (spent 0 1))
    ∷ []
