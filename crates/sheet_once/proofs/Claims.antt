-- The claims but for the figures: each small sheet stands at exactly one position, nothing else does, and the room is enough. Assumes nothing.
use Rattle.model.specs.Kit.{◌≡◌, refl, sym, ap, ◌∙◌, subst, Bool, true, false, List, [], ◌∷◌, map, Memᴰ, Memᴰ-head, Memᴰ-map, Memᴰ-of_map, Memᴰ-append_left, ℕ, zero, suc, ◌+◌, ◌-◌, ◌*◌, ◌/◌}
use Rattle.model.specs.Kit.{◌%◌, ◌^◌, ◌≤◌, ◌<◌, arith, T, eqb, ltb, eqb→eq, length, drop, get_or, ltb-true, ltb-false}
use Rattle.model.specs.{Lists.all, Lists.keep, Lists.flat, Lists.up_from, Lists.below, Lists.at, ValueSets.has, ValueSets.members, Sheet.word, Sheet.words, Sheet.header_of, Sheet.scope_at}
use Rattle.model.specs.{Sheet.constraints_from, Sheet.problem_of, Sheet.verdict_of}
use mathlib.Core.List.Memᴰ
use Rattle.model.proofs.{Lists.Sorted, Lists.sorted_keep, Lists.up_from_e, Lists.keep_i, Lists.keep_e, Lists.flat_i, Lists.mem_get_d, Lists.place_of, Accepted.accepted_is}
use Rattle.sheet_small.specs.Small.{Shape, shapes, tables, rows_of, front_of, sheet_of, is_sheet, plain_sheets, symmetric_sheets, small_sheets}
use Rattle.sheet_small.specs.Inner.Inner.{shape_no, table_no}
use Rattle.sheet_small.specs.Inner.Inner.{candidate}
use Rattle.sheet_once.specs.Held.{IsSmall}
use Rattle.sheet_once.specs.Inner.Claims.{EachOnce, NothingElse, RoomEnough}
use Rattle.sheet_small.proofs.{Lists.tested, Order.order}
use Rattle.sheet_once.proofs.Reading.{accepts, shape, in_shapes, in_tables, is_sheet_lem, short}

-- ---- nothing else stands at a position
plain_small : (s : Shape) → T (is_sheet (sheet_of s [])) → IsSmall (sheet_of s [])
unfolding is_sheet problem_of header_of word words at sheet_of front_of flat constraints_from scope_at below up_from
plain_small s t = record { accepts = accepted_is (verdict_of (sheet_of s [])) t; variables = refl; values = refl; constraint = refl; symmetry = omega arith }

symmetric_small : (s : Shape) (g : List ℕ) → T (is_sheet (sheet_of s (g ∷ []))) → IsSmall (sheet_of s (g ∷ []))
unfolding is_sheet problem_of header_of word words at sheet_of front_of flat constraints_from scope_at below up_from
symmetric_small s g t = record { accepts = accepted_is (verdict_of (sheet_of s (g ∷ []))) t; variables = refl; values = refl; constraint = refl; symmetry = omega arith }

candidate_small : (n : ℕ) → T (is_sheet (candidate n)) → IsSmall (candidate n)
unfolding candidate
candidate_small n = go (ltb n 144)
  where
    go : (t : Bool) → T (is_sheet (elim t [ true ↦ sheet_of (shape_no n) [] | false ↦ sheet_of (shape_no ((n - 144) / 24)) (table_no ((n - 144) % 24) ∷ []) ])) →
        IsSmall (elim t [ true ↦ sheet_of (shape_no n) [] | false ↦ sheet_of (shape_no ((n - 144) / 24)) (table_no ((n - 144) % 24) ∷ []) ])
    go true = plain_small (shape_no n)
    go false = symmetric_small (shape_no ((n - 144) / 24)) (table_no ((n - 144) % 24))

pub nothing_else : NothingElse
nothing_else b k s =
    let m = subst (Memᴰ b) order (subst (λ (x : List ℕ). Memᴰ x small_sheets) s.1 (mem_get_d small_sheets k [] s.0)) in
    let e = keep_e is_sheet (map candidate (below 3600)) b m in
    let q = Memᴰ-of_map candidate (below 3600) e.0 in
    subst IsSmall q.2 (candidate_small q.0 (subst (λ (x : List ℕ). T (is_sheet x)) (sym q.2) e.1))

pub room_enough : RoomEnough
room_enough b k s = short b (nothing_else b k s)

-- ---- each stands at some position
with_tables : Shape → List (List ℕ)
with_tables s = map (λ g. sheet_of s (g ∷ [])) tables

small_member : (b : List ℕ) → IsSmall b → Memᴰ b small_sheets
unfolding small_sheets plain_sheets symmetric_sheets is_sheet with_tables
small_member b s = go (problem_of b).symmetries refl s.symmetry (is_sheet_lem b s)
  where
    go : (gs : List (List ℕ)) → (problem_of b).symmetries ≡ gs → length gs ≤ 1 → b ≡ sheet_of (shape b s) gs → Memᴰ b small_sheets
    go [] e l i =
        Memᴰ-append_left symmetric_sheets
        (keep_i is_sheet (map (λ s. sheet_of s []) shapes) b (subst (λ (x : List ℕ). Memᴰ x (map (λ s. sheet_of s []) shapes)) (sym i) (Memᴰ-map (λ s. sheet_of s []) (in_shapes b s))) (accepts b s))
    go (g ∷ []) e l i =
        let m : Memᴰ g (problem_of b).symmetries = subst (Memᴰ g) (sym e) (Memᴰ-head refl) in
        let f = flat_i (map with_tables shapes) (with_tables (shape b s)) (sheet_of (shape b s) (g ∷ [])) (Memᴰ-map with_tables (in_shapes b s))
        (Memᴰ-map (λ g. sheet_of (shape b s) (g ∷ [])) (in_tables b s g m)) in
        Memᴰ.append_right plain_sheets
        (keep_i is_sheet (flat (map with_tables shapes)) b (subst (λ (x : List ℕ). Memᴰ x (flat (map with_tables shapes))) (sym i) f) (accepts b s))
    go (g ∷ h ∷ gs) e l i = absurd (omega arith)

-- ---- and at no other: a candidate tells its number
-- the index of v among the numbers that are not a
unskip : ℕ → ℕ → ℕ
unskip a v = v - (4 + v - a) / 4

rows_in : ℕ → List ℕ → ℕ
rows_in zero l = 0
rows_in (suc k) l = 2 ^ (2 * at l 0 + at l 2) + rows_in k (drop 4 l)

shape_in : List ℕ → ℕ
shape_in b = 48 * (at b 16 - 1) + 16 * (at b 18 - 1) + rows_in (at b 22) (drop 28 b)

table_in : List ℕ → ℕ
table_in t = let x = unskip (at t 0) (at t 2) in 6 * at t 0 + 2 * x + unskip x (unskip (at t 0) (at t 4))

number_in : List ℕ → ℕ
number_in b = elim (eqb (at b 6) 0) [ true ↦ shape_in b | false ↦ 144 + 24 * shape_in b + table_in (drop (at b 12) b) ]

told : all (λ n. eqb (number_in (candidate n)) n) (below 3600) ≡ true
unfolding all keep flat up_from below at has members rows_of front_of sheet_of shape_no candidate unskip rows_in shape_in table_in number_in
told = refl

number_of : (n : ℕ) → n < 3600 → number_in (candidate n) ≡ n
number_of n h = eqb→eq (number_in (candidate n)) n (tested (λ n. eqb (number_in (candidate n)) n) 3600 told n h)

Before : List ℕ → List ℕ → Type 0
Before a b = number_in a < number_in b

candidates_sorted : (a k : ℕ) → a + k ≤ 3600 → Sorted Before (map candidate (up_from a k))
unfolding up_from Before
candidates_sorted a zero h = tt
candidates_sorted a (suc k) h = (
  λ y m. (let q = Memᴰ-of_map candidate (up_from (suc a) k) m in
      let l = up_from_e (suc a) k q.0 q.1 in
      omega (arith, l, number_of a (omega arith), number_of q.0 (omega (arith, l)), ap number_in q.2)),
  candidates_sorted (suc a) k (omega arith),
)

sorted_at : (l : List (List ℕ)) → Sorted Before l → (i j : ℕ) → i < j → j < length l → Before (get_or l i []) (get_or l j [])
sorted_at [] s i j h k = absurd (omega arith)
sorted_at (x ∷ l) s i zero h k = absurd (omega arith)
sorted_at (x ∷ l) s zero (suc j) h k = s.0 (get_or l j []) (mem_get_d l j [] (omega arith))
sorted_at (x ∷ l) s (suc i) (suc j) h k = sorted_at l s.1 i j (omega arith) (omega arith)

apart : (i j : ℕ) → i < j → j < length small_sheets → get_or small_sheets i [] ≡ get_or small_sheets j [] → ⊥
unfolding Before below
apart i j h k e = omega (arith, sorted_at small_sheets sorted i j h k, ap number_in e)
  where
    sorted : Sorted Before small_sheets
    sorted = subst (Sorted Before) (sym order) (sorted_keep Before is_sheet (map candidate (below 3600)) (candidates_sorted 0 3600 (omega arith)))

pub each_once : EachOnce
each_once b s = let q = place_of small_sheets b [] (small_member b s) in (q.0, (q.1, q.2), λ j w. once q.0 j q.1 w.0 (q.2 ∙ sym w.1))
  where
    once : (i j : ℕ) → i < length small_sheets → j < length small_sheets → get_or small_sheets i [] ≡ get_or small_sheets j [] → j ≡ i
    once i j h k e = go (ltb i j) refl (ltb j i) refl
      where
        go : (t : Bool) → ltb i j ≡ t → (u : Bool) → ltb j i ≡ u → j ≡ i
        go true a u c = absurd (apart i j (ltb-true i j a) k e)
        go false a true c = absurd (apart j i (ltb-true j i c) h (sym e))
        go false a false c = omega (arith, ltb-false i j a, ltb-false j i c)
