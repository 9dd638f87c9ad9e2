-- Parts of a run joined by their heads, which are lent one behind the other, 115 bytes each, in any order and with repeats. A head has, in bytes: 0 its kind (1 finished,
-- 2 spent, 3 full), 4 its plans, 8 its nodes, 12 twelve counts, 60 the name of its problem, 76 where it begins, 89 where it was to end, 102 its last node.
use Rattle.std.specs.Prelude.{Bool, true, false, Option, None, Some, List, [], ◌∷◌, map, ℕ, zero, suc, ◌+◌, ◌*◌, ◌/◌, ◌%◌, eqb, ltb, leb, length}
use Rattle.model.specs.{Lists.all, Lists.any, Lists.at, Lists.below, Lists.both, Lists.either, Lists.choose, Lists.same, Lists.tabulate, Lists.total, Verdict.Verdict, Verdict.accepted, Verdict.ask}
pub use Rattle.model.specs.Bytes.{four_at}
use Rattle.run_cut.specs.Parts.{after}

-- ---- what stands in the bytes
-- the path at an offset: as many values as the first byte says
unfoldable pub path_at : List ℕ → ℕ → List ℕ
path_at l o = tabulate (at l o) (λ i. at l (o + 1 + i))

-- head k: its kind, where it begins, and how far it reaches, to its end where it is finished, else to its last node
abbrev pub kind_at : List ℕ → ℕ → ℕ
kind_at l k = four_at l (115 * k)

abbrev pub from_at : List ℕ → ℕ → List ℕ
from_at l k = path_at l (115 * k + 76)

abbrev pub reach_place : List ℕ → ℕ → ℕ
reach_place l k = choose (eqb (kind_at l k) 1) (115 * k + 89) (115 * k + 102)

abbrev pub reach_at : List ℕ → ℕ → List ℕ
reach_at l k = path_at l (reach_place l k)

-- ---- the questions
abbrev pub heads_in : List ℕ → ℕ
heads_in l = length l / 115

-- whole heads, and not too many
unfoldable pub whole_heads : List ℕ → Bool
whole_heads l = both (eqb (length l % 115) 0) (leb (heads_in l) 65536)

-- a path has at most twelve values, and zeros behind them
unfoldable pub path_shaped : List ℕ → ℕ → Bool
path_shaped l o = both (leb (at l o) 12) (all (λ i. either (ltb i (at l o)) (eqb (at l (o + 1 + i)) 0)) (below 12))

unfoldable pub head_shaped : List ℕ → ℕ → Bool
head_shaped l k =
    both (both (leb 1 (kind_at l k)) (leb (kind_at l k) 3)) (both (path_shaped l (115 * k + 76)) (both (path_shaped l (115 * k + 89)) (path_shaped l (115 * k + 102))))

-- the sixteen bytes of its problem's name are those of the first head
unfoldable pub alike : List ℕ → ℕ → Bool
alike l k = all (λ i. eqb (at l (115 * k + 60 + i)) (at l (60 + i))) (below 16)

unfoldable pub join_verdict : List ℕ → Verdict
join_verdict l =
    ask (whole_heads l) 41 0
    (ask (all (head_shaped l) (below (heads_in l))) 42 0
    (ask (all (alike l) (below (heads_in l))) 43 0
    (ask (all (λ k. leb (kind_at l k) 2) (below (heads_in l))) 44 0 accepted)))

-- ---- whether the ranges join
-- head k goes on: it reaches a path after its beginning
abbrev pub goes_on : List ℕ → ℕ → Bool
goes_on l k = after (from_at l k) (reach_at l k)

-- from the path s one comes to the last path by at most so many heads that go on, each of which begins where one stands
unfoldable pub comes : List ℕ → ℕ → List ℕ → Bool
comes l zero s = same s (255 ∷ [])
comes l (suc left) s =
    elim (same s (255 ∷ [])) [
      | true ↦ true
      | false ↦ any (λ k. elim (both (same (from_at l k) s) (goes_on l k)) [ true ↦ comes l left (reach_at l k) | false ↦ false ]) (below (heads_in l))
    ]

-- one comes there from the empty path. No head is needed twice, since each reaches further than those before it
abbrev pub joined : List ℕ → Bool
joined l = comes l (heads_in l) []

-- head k leads to the last path
abbrev pub leads : List ℕ → ℕ → Bool
leads l k = both (goes_on l k) (comes l (heads_in l) (reach_at l k))

-- ---- the heads taken
-- those that may be: where the ranges join the heads that lead to the last path, else all
unfoldable pub may_take : List ℕ → ℕ → Bool
may_take l k = choose (joined l) (leads l k) true

-- a head by its number: 0 for none, k + 1 for head k
abbrev pub head_number : Option ℕ → ℕ
head_number None = 0
head_number (Some k) = suc k

-- where one stands: 0 is the empty path, before any head; k + 1 where head k reaches
abbrev pub stand_path : List ℕ → ℕ → List ℕ
stand_path l zero = []
stand_path l (suc k) = reach_at l k

abbrev pub reach_or : List ℕ → List ℕ → ℕ → List ℕ
reach_or l s zero = s
reach_or l s (suc k) = reach_at l k

-- of those of the first n heads that may be taken and begin at the path s, the one that reaches furthest after it, of equals the first: 0 if there is none, k + 1 for
-- head k
unfoldable pub best_of : List ℕ → List ℕ → ℕ → ℕ
best_of l s zero = 0
best_of l s (suc k) = choose (both (may_take l k) (both (same (from_at l k) s) (after (reach_or l s (best_of l s k)) (reach_at l k)))) (suc k) (best_of l s k)

-- the next head that is taken; none behind the last path
unfoldable pub step_of : List ℕ → ℕ → ℕ
step_of l stand = choose (same (stand_path l stand) (255 ∷ [])) 0 (best_of l (stand_path l stand) (heads_in l))

-- the heads taken one behind the other, at most so many
unfoldable pub taken_from : List ℕ → ℕ → ℕ → List ℕ
taken_from l zero stand = []
taken_from l (suc left) stand = elim (step_of l stand) [ zero ↦ [] | suc k ↦ k ∷ taken_from l left (suc k) ]

unfoldable pub taken : List ℕ → List ℕ
taken l = taken_from l (heads_in l) 0

-- where one stands behind them
unfoldable pub stand_after : ℕ → List ℕ → ℕ
stand_after stand [] = stand
stand_after stand (k ∷ ks) = stand_after (suc k) ks

-- ---- what is answered
abbrev pub stands : List ℕ → ℕ
stands l = stand_after 0 (taken l)

-- the sums of the heads taken
abbrev pub plans_of : List ℕ → ℕ
plans_of l = total (map (λ k. four_at l (115 * k + 4)) (taken l))

abbrev pub nodes_of : List ℕ → ℕ
nodes_of l = total (map (λ k. four_at l (115 * k + 8)) (taken l))

abbrev pub count_of : List ℕ → ℕ → ℕ
count_of l x = total (map (λ k. four_at l (115 * k + 12 + 4 * x)) (taken l))

-- of the first n heads that begin after the path s, the one that begins nearest, of equals the first: 0 if there is none, k + 1 for head k
abbrev pub nearer : List ℕ → ℕ → List ℕ → Bool
nearer l zero from = true
nearer l (suc k) from = after from (from_at l k)

unfoldable pub nearest_of : List ℕ → List ℕ → ℕ → ℕ
nearest_of l s zero = 0
nearest_of l s (suc k) = choose (both (after s (from_at l k)) (nearer l (nearest_of l s k) (from_at l k))) (suc k) (nearest_of l s k)

-- the missing range: from where one stands, up to the nearest beginning after it, else the last path
abbrev pub missing_from : List ℕ → List ℕ
missing_from l = stand_path l (stands l)

abbrev pub nearest : List ℕ → ℕ
nearest l = nearest_of l (missing_from l) (heads_in l)

abbrev pub begin_or : List ℕ → ℕ → List ℕ
begin_or l zero = 255 ∷ []
begin_or l (suc k) = from_at l k

abbrev pub missing_upto : List ℕ → List ℕ
missing_upto l = begin_or l (nearest l)
