-- Parts of a run of sheet A and their heads, as one list of statements about the definitions. One theorem says that each holds (proofs/JoinedExamples).
-- A's tree has six nodes: 0; 0 1, a plan; 0 2, a plan; 1; 1 2, a plan; 2.
use Rattle.std.specs.Prelude.{◌≡◌, true, false, List, [], ◌∷◌, map, ℕ, length, replicate, None, Ok}
use Rattle.model.specs.{Lists.flat, Lists.tabulate, Run.finished, Run.spent, Run.full, Run.ended, Verdict.accepted, Verdict.refused, Examples.sheet_a}
use Rattle.run_ranges.specs.Claims.{Part, all_plans}
use Rattle.export_parts.specs.Parts.{part_of}
use Rattle.run_join.specs.Join.{join_verdict, taken, joined, plans_of, nodes_of, count_of, missing_from, missing_upto}
use Rattle.run_join.specs.{Calls.CallJoin, declared.Joining.Joining}
use Rattle.promises.specs.JoinedHeads.{head_bytes, HeldBytes, taken_parts, part_at}

abbrev many : ℕ
many = 1000000

-- ---- parts of sheet A
abbrev pub part_a : List ℕ → List ℕ → ℕ → ℕ → Part
part_a from upto limit room = part_of sheet_a [] [] from upto limit (replicate room 9)

-- up to 0 2, from there on, and both: the second head first, and once more at the end
abbrev pub cut_a : List Part
cut_a = part_a (0 ∷ 2 ∷ []) (255 ∷ []) many 18 ∷ part_a [] (0 ∷ 2 ∷ []) many 18 ∷ part_a (0 ∷ 2 ∷ []) (255 ∷ []) many 18 ∷ []

-- a part that was spent after two nodes, and the part that goes on from its last node
abbrev pub spent_a : List Part
spent_a = part_a (0 ∷ 1 ∷ []) (255 ∷ []) many 18 ∷ part_a [] (255 ∷ []) 2 18 ∷ []

-- heads of two cuts, of which only the second is whole: the one that reaches furthest from the empty path leads nowhere
abbrev pub mixed_a : List Part
mixed_a = part_a [] (1 ∷ []) many 18 ∷ part_a [] (0 ∷ 2 ∷ []) many 18 ∷ part_a (0 ∷ 2 ∷ []) (255 ∷ []) many 18 ∷ []

abbrev pub heads_a : List Part → List ℕ
heads_a cs = flat (map (head_bytes sheet_a [] []) cs)

-- what `join` answers to heads that join
abbrev pub joining_a : List Part → Joining
joining_a cs = record { missing = None; plans = 3; nodes = 6; counts = tabulate 12 (count_of (heads_a cs)) }

abbrev pub tests_joined : List (Type 0)
tests_joined =
    -- the parts
    ((part_a [] (0 ∷ 2 ∷ []) many 18).answer ≡ ended (finished 2 3))
    ∷ ((part_a (0 ∷ 2 ∷ []) (255 ∷ []) many 18).answer ≡ ended (finished 1 3))
    ∷ ((part_a [] (255 ∷ []) 2 18).answer ≡ ended (spent 1 2))
    ∷ ((part_a [] (255 ∷ []) 2 18).last ≡ 0 ∷ 1 ∷ [])
    ∷ ((part_a (0 ∷ 1 ∷ []) (255 ∷ []) many 18).answer ≡ ended (finished 2 4))
    ∷ ((part_a [] (255 ∷ []) many 3).answer ≡ ended (full 1 3))
    -- up to its last node the spent part is finished with its figures; the full part isn't: its last node is a plan more
    ∷ ((part_a [] (0 ∷ 1 ∷ []) 2 2).answer ≡ ended (finished 1 2))
    ∷ ((part_a [] (255 ∷ []) many 3).last ≡ 0 ∷ 2 ∷ [])
    ∷ ((part_a [] (0 ∷ 2 ∷ []) 3 4).answer ≡ ended (finished 2 3))
    -- a cut
    ∷ (length (heads_a cut_a) ≡ 345)
    ∷ (join_verdict (heads_a cut_a) ≡ accepted)
    ∷ (taken (heads_a cut_a) ≡ 1 ∷ 0 ∷ [])
    ∷ (joined (heads_a cut_a) ≡ true)
    ∷ (plans_of (heads_a cut_a) ≡ 3)
    ∷ (nodes_of (heads_a cut_a) ≡ 6)
    ∷ (tabulate 12 (count_of (heads_a cut_a)) ≡ 3 ∷ 3 ∷ replicate 10 0)
    ∷ (all_plans 2 (taken_parts (heads_a cut_a) (part_at sheet_a [] [] cut_a)) ≡ (0 ∷ 1 ∷ []) ∷ (0 ∷ 2 ∷ []) ∷ (1 ∷ 2 ∷ []) ∷ [])
    -- a spent part gone on with
    ∷ (join_verdict (heads_a spent_a) ≡ accepted)
    ∷ (taken (heads_a spent_a) ≡ 1 ∷ 0 ∷ [])
    ∷ (joined (heads_a spent_a) ≡ true)
    ∷ (plans_of (heads_a spent_a) ≡ 3)
    ∷ (nodes_of (heads_a spent_a) ≡ 6)
    ∷ (all_plans 2 (taken_parts (heads_a spent_a) (part_at sheet_a [] [] spent_a)) ≡ (0 ∷ 1 ∷ []) ∷ (0 ∷ 2 ∷ []) ∷ (1 ∷ 2 ∷ []) ∷ [])
    -- two cuts mixed: of heads that join those are taken that lead to the last path, without the last one those that reach furthest
    ∷ (joined (heads_a mixed_a) ≡ true)
    ∷ (taken (heads_a mixed_a) ≡ 1 ∷ 2 ∷ [])
    ∷ (nodes_of (heads_a mixed_a) ≡ 6)
    ∷ (joined (heads_a (part_a [] (0 ∷ 2 ∷ []) many 18 ∷ part_a [] (1 ∷ []) many 18 ∷ [])) ≡ false)
    ∷ (missing_from (heads_a (part_a [] (0 ∷ 2 ∷ []) many 18 ∷ part_a [] (1 ∷ []) many 18 ∷ [])) ≡ 1 ∷ [])
    ∷ (missing_upto (heads_a (part_a [] (0 ∷ 2 ∷ []) many 18 ∷ part_a [] (1 ∷ []) many 18 ∷ [])) ≡ 255 ∷ [])
    -- the first head of the cut is missing; a full part is refused
    ∷ (joined (heads_a (part_a (0 ∷ 2 ∷ []) (255 ∷ []) many 18 ∷ [])) ≡ false)
    ∷ (missing_from (heads_a (part_a (0 ∷ 2 ∷ []) (255 ∷ []) many 18 ∷ [])) ≡ [])
    ∷ (missing_upto (heads_a (part_a (0 ∷ 2 ∷ []) (255 ∷ []) many 18 ∷ [])) ≡ 0 ∷ 2 ∷ [])
    ∷ (join_verdict (heads_a (part_a [] (255 ∷ []) many 3 ∷ [])) ≡ refused 44 0)
    ∷ []

-- the cuts of the first
abbrev pub cuts_a : List (List ℕ)
cuts_a = (0 ∷ 2 ∷ []) ∷ (255 ∷ []) ∷ []

-- ---- nothing that is supposed of joined heads is impossible: calls, their heads, and a call of `join` that answers joined
abbrev pub HeldA : List Part → Type 0
HeldA cs = HeldBytes sheet_a [] [] cs (heads_a cs) × CallJoin (heads_a cs) (Ok (joining_a cs))
