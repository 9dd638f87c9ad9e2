-- The orderings of five: what the rows are, that none is absent, and what one test over the whole list shows of the first m! rows. Assumes nothing.
use Rattle.model.specs.Kit.{◌≡◌, refl, sym, ap, ◌∙◌, subst, Bool, true, false, List, [], ◌∷◌, Memᴰ, ⊎_elim, ◌↔◌, ℕ, zero, suc, ◌+◌, ◌-◌, ◌*◌, ◌≤◌, ◌<◌, not-suc-le-zero, le_of_suc-le-suc}
use Rattle.model.specs.Kit.{mul-le-mul_right, arith, ℕ_discrete, dec_lt, T, leb, ltb, eqb, eqb→eq, leb→le, ltb→lt, lt→ltb, lit<, length, get_or, set, take, replicate, length-map, length-set}
use Rattle.model.specs.Kit.{get_or-take}
use Rattle.model.specs.Kit.{length-take-le}
use Rattle.model.specs.Lists.{both, either, all, any, keep, flat, up_from, below, at, same, earlier, rows_ascend}
use Rattle.model.specs.{ValueSets.has, ValueSets.mask_below, ValueSets.full_mask, ValueSets.members, Problem.assignments, Sheet.distinct}
use lib.ListN.{get_or-replicate}
use Rattle.order.specs.Order.{Ordering}
use Rattle.block.specs.Block.{orderings, ordering, factorial, composed}
use Rattle.model.proofs.Lists.{both_l, both_r, either_e, all_e, any_e, keep_i, keep_e, T_of, of_T, up_from_i, up_from_e, same_eq, same_refl, at_ext, at_take, at_map, at_set, at_set_other, mem_at}
use Rattle.model.proofs.Lists.{at_mem, mem_get_d, place_of, Sorted, sorted_keep, rows_ascend_of}
use Rattle.model.proofs.{Counting.distinct_at, Counting.onto, Sets.has_lt, Sets.mask_i, Sets.members_i, Assignments.assign_i, Assignments.drawn_e, Assignments.assignments_sorted}
use Rattle.order.proofs.{Reordered.apart_distinct, LeadersBy.below_at, LeadersBy.ordering_below}

-- ---- a test at each element of a list and its place
module _ {A : Type 0} where
  abbrev pub every : (ℕ → A → Bool) → ℕ → List A → Bool
  every f i [] = true
  every f i (x ∷ xs) = both (f i x) (every f (suc i) xs)

  every_from : (f : ℕ → A → Bool) (d : A) (xs : List A) (i : ℕ) → T (every f i xs) → (k : ℕ) → k < length xs → T (f (k + i) (get_or xs k d))
  every_from f d [] i t k h = absurd (not-suc-le-zero h)
  every_from f d (x ∷ xs) i t zero h =
      let e : i ≡ 0 + i = omega arith in
      subst (λ (j : ℕ). T (f j x)) e (both_l (f i x) (every f (suc i) xs) t)
  every_from f d (x ∷ xs) i t (suc k) h =
      let e : k + suc i ≡ suc k + i = omega arith in
      subst (λ (j : ℕ). T (f j (get_or xs k d))) e (every_from f d xs (suc i) (both_r (f i x) (every f (suc i) xs) t) k (le_of_suc-le-suc h))

  pub every_at : (f : ℕ → A → Bool) (d : A) (xs : List A) → T (every f 0 xs) → (k : ℕ) → k < length xs → T (f k (get_or xs k d))
  every_at f d xs t k h =
      let e : k + 0 ≡ k = omega arith in
      subst (λ (j : ℕ). T (f j (get_or xs k d))) e (every_from f d xs 0 t k h)

-- ---- the rows
small_at : (n : ℕ) (e : List ℕ) → Ordering n e → (i : ℕ) → i < n → at e i < n
small_at n e o i h = o.inside (at e i) (mem_at e i (omega (arith, o.sized)))

-- n different numbers below n are an ordering of n
pub ordering_of : (n : ℕ) (e : List ℕ) → length e ≡ n → ((x : ℕ) → Memᴰ x e → x < n) → T (distinct e) → Ordering n e
ordering_of n e sized inside different = record {
  sized = sized;
  inside = inside;
  each = onto e n sized different inside;
  once = λ i j h k. distinct_at e different i j (omega arith) (omega arith);
}

abbrev fives : List ℕ
fives = replicate 5 (full_mask 5)

full_five : full_mask 5 ≡ 31
unfolding mask_below
full_five = refl

fives_at : (i : ℕ) → i < 5 → at fives i ≡ full_mask 5
unfolding at
fives_at i h = get_or-replicate 5 i (full_mask 5) 0 h

-- each row is an ordering
pub row_ordering : (e : List ℕ) → Memᴰ e orderings → Ordering 5 e
unfolding orderings
row_ordering e m =
    let r = keep_e distinct (assignments fives) e m in
    let d = drawn_e fives e r.0 in
    let small : (i : ℕ) → i < 5 → at e i < 5 = λ i h. has_lt 5 31 (at e i) (lit< tt) (subst (λ (s : ℕ). T (has s (at e i))) (fives_at i h ∙ full_five) (d.1 i h)) in
    ordering_of 5 e d.0 (λ x k. let q = at_mem e x k in subst (λ (y : ℕ). y < 5) q.2 (small q.0 (omega (arith, q.1, d.0)))) r.1

-- none is absent
pub ordering_row : (e : List ℕ) → Ordering 5 e → Memᴰ e orderings
unfolding orderings
ordering_row e o =
    keep_i distinct (assignments fives) e
    (assign_i fives e o.sized (λ i h. subst (λ (s : ℕ). Memᴰ (at e i) (members s)) (sym (fives_at i h))
    (let l = small_at 5 e o i h in let small : at e i < 16 = omega arith in members_i (full_mask 5) (at e i) small (mask_i (λ v. ltb v 5) (at e i) small (lt→ltb (at e i) 5 l)))))
    (apart_distinct e (λ i j h k. o.once i j (omega (arith, o.sized)) (omega (arith, o.sized))))

pub orderings_sorted : Sorted (λ (x y : List ℕ). T (earlier x y)) orderings
unfolding orderings
orderings_sorted = sorted_keep (λ (x y : List ℕ). T (earlier x y)) distinct (assignments fives) (assignments_sorted fives)

pub orderings_ascend : T (rows_ascend orderings)
orderings_ascend = rows_ascend_of orderings orderings_sorted

-- ---- the test over the whole list
-- the first k numbers stay put
pub stays : ℕ → List ℕ → Bool
stays k e = same (take k e) (below k)

alike : Bool → Bool → Bool
alike true b = b
alike false true = false
alike false false = true

alike_eq : (a b : Bool) → T (alike a b) → a ≡ b
unfolding alike
alike_eq true true t = refl
alike_eq true false t = absurd t
alike_eq false true t = absurd t
alike_eq false false t = refl

-- the first m! rows are exactly those that move only the last m numbers
prefix_test : ℕ → List ℕ → Bool
prefix_test row e = all (λ m. alike (stays (5 - m) e) (ltb row (factorial m))) (up_from 2 4)

-- a row other than the first is row k!, and then an earlier row
trade_test : ℕ → List ℕ → Bool
trade_test row e = either (eqb row 0) (any (λ k. both (leb (factorial k) row) (any (λ f. same e (composed (ordering (factorial k)) f)) (take row orderings))) (up_from 1 4))

-- 4 - k and 5 - k change places
pub trade : ℕ → List ℕ
trade k = set (set (below 5) (4 - k) (5 - k)) (5 - k) (4 - k)

opened : ℕ
unfolding all any keep flat up_from below at same has mask_below members assignments distinct orderings ordering factorial composed stays alike prefix_test trade_test trade
opened = 0

pub count : length orderings ≡ 120
unfolding opened
count = refl

rows_tested : T (every (λ row e. both (prefix_test row e) (trade_test row e)) 0 orderings)
unfolding opened
rows_tested = tt

trades_tested : T (all (λ k. same (ordering (factorial k)) (trade k)) (up_from 1 4))
unfolding opened
trades_tested = tt

factorials_tested : T (all (λ m. both (leb (factorial m) 120) (all (λ k. either (ltb k m) (leb (factorial m) (factorial k))) (up_from 1 4))) (up_from 2 4))
unfolding opened
factorials_tested = tt

zero_tested : T (same (ordering 0) (below 5))
unfolding opened
zero_tested = tt

-- ---- carried to each row
-- the first row moves nothing
pub row_zero : (i : ℕ) → i < 5 → at (ordering 0) i ≡ i
row_zero i h = ap (λ (e : List ℕ). at e i) (same_eq (ordering 0) (below 5) zero_tested) ∙ below_at 5 i h

-- ---- factorials ascend
factorial_some : (m : ℕ) → 1 ≤ factorial m
unfolding factorial
factorial_some zero = omega arith
factorial_some (suc m) = let a = factorial_some m in let b : 1 * factorial m ≤ suc m * factorial m = mul-le-mul_right (factorial m) (omega arith) in omega arith

factorial_step : (k : ℕ) → 1 ≤ k → factorial k < factorial (suc k)
unfolding factorial
factorial_step k l = let a = factorial_some k in let b : 2 * factorial k ≤ suc k * factorial k = mul-le-mul_right (factorial k) (omega arith) in omega arith

pub factorial_up : (k m : ℕ) → 1 ≤ k → k < m → factorial k < factorial m
factorial_up k zero l h = absurd (not-suc-le-zero h)
factorial_up k (suc m) l h = go (ℕ_discrete k m) (factorial_up k m l)
  where
    go : Dec (k ≡ m) → (k < m → factorial k < factorial m) → factorial k < factorial (suc m)
    go (yes e) f = subst (λ (n : ℕ). factorial k < factorial (suc n)) e (factorial_step k l)
    go (no e) f = let a = f (omega arith) in let b = factorial_step m (omega arith) in omega arith

-- a block's number of variables
abbrev pub Few : ℕ → Type 0
Few m = (2 ≤ m) × (m ≤ 5)

few_mem : (m : ℕ) → Few m → Memᴰ m (up_from 2 4)
few_mem m f = up_from_i 2 4 m f.0 (let l = f.1 in omega arith)

factorial_e : (m : ℕ) → Few m → T (both (leb (factorial m) 120) (all (λ k. either (ltb k m) (leb (factorial m) (factorial k))) (up_from 1 4)))
factorial_e m f = all_e (λ m. both (leb (factorial m) 120) (all (λ k. either (ltb k m) (leb (factorial m) (factorial k))) (up_from 1 4))) (up_from 2 4) factorials_tested m (few_mem m f)

pub factorial_le : (m : ℕ) → Few m → factorial m ≤ 120
factorial_le m f = leb→le (factorial m) 120 (both_l (leb (factorial m) 120) _ (factorial_e m f))

factorial_less : (m k row : ℕ) → Few m → Memᴰ k (up_from 1 4) → factorial k ≤ row → row < factorial m → k < m
factorial_less m k row f i l h =
    ⊎_elim (λ t. ltb→lt k m t) (λ t. absurd (let q = leb→le (factorial m) (factorial k) t in omega arith))
    (either_e (ltb k m) (leb (factorial m) (factorial k)) (all_e (λ k. either (ltb k m) (leb (factorial m) (factorial k))) (up_from 1 4) (both_r (leb (factorial m) 120) _ (factorial_e m f)) k i))

row_mem : (row : ℕ) → row < 120 → Memᴰ (ordering row) orderings
unfolding ordering
row_mem row h = mem_get_d orderings row [] (omega (arith, count))

pub row_is : (row : ℕ) → row < 120 → Ordering 5 (ordering row)
row_is row h = row_ordering (ordering row) (row_mem row h)

-- every ordering is a row
pub row_of : (e : List ℕ) → Ordering 5 e → (row : ℕ) × (row < 120) × (ordering row ≡ e)
unfolding ordering
row_of e o = let r = place_of orderings e [] (ordering_row e o) in (r.0, omega (arith, count, r.1), r.2)

tested_at : (row : ℕ) → row < 120 → T (both (prefix_test row (ordering row)) (trade_test row (ordering row)))
unfolding ordering
tested_at row h = every_at (λ row e. both (prefix_test row e) (trade_test row e)) [] orderings rows_tested row (omega (arith, count))

stays_e : (k : ℕ) (e : List ℕ) → T (stays k e) → (i : ℕ) → i < k → at e i ≡ i
unfolding stays
stays_e k e t i h = sym (at_take k e i h) ∙ ap (λ (l : List ℕ). at l i) (same_eq (take k e) (below k) t) ∙ below_at k i h

stays_i : (k : ℕ) (e : List ℕ) → k ≤ length e → ((i : ℕ) → i < k → at e i ≡ i) → T (stays k e)
unfolding stays
stays_i k e l h =
    let n : length (take k e) ≡ k = length-take-le k e l in
    let q : take k e ≡ below k = at_ext (take k e) (below k) (n ∙ sym (ordering_below k).sized)
    (λ i j. let z : i < k = subst (λ (a : ℕ). i < a) n j in at_take k e i z ∙ h i z ∙ sym (below_at k i z)) in
    subst (λ (b : List ℕ). T (same (take k e) b)) q (same_refl (take k e))

first_stays : (m row : ℕ) → Few m → row < 120 → stays (5 - m) (ordering row) ≡ ltb row (factorial m)
unfolding prefix_test
first_stays m row f h =
    alike_eq (stays (5 - m) (ordering row)) (ltb row (factorial m))
    (all_e (λ m. alike (stays (5 - m) (ordering row)) (ltb row (factorial m))) (up_from 2 4) (both_l (prefix_test row (ordering row)) (trade_test row (ordering row)) (tested_at row h)) m
    (few_mem m f))

-- the first m! rows are exactly those that move only the last m numbers
pub first_rows : (m row : ℕ) → Few m → row < 120 → (row < factorial m) ↔ ((i : ℕ) → i < 5 - m → at (ordering row) i ≡ i)
first_rows m row f l =
    let e = first_stays m row f l in
    let b = stays (5 - m) (ordering row) in (
      λ h. stays_e (5 - m) (ordering row) (T_of b (e ∙ of_T (ltb row (factorial m)) (lt→ltb row (factorial m) h))),
      λ h. ltb→lt row (factorial m) (T_of (ltb row (factorial m)) (sym e ∙ of_T b (stays_i (5 - m) (ordering row) (omega (arith, (row_is row l).sized)) h))),
    )

-- an ordering that moves only the last m numbers
pub record Moves (m : ℕ) (e : List ℕ) : Type 0 where
  pub ordered : Ordering 5 e
  pub still : (i : ℕ) → i < 5 - m → at e i ≡ i

pub moves_small : (m : ℕ) (e : List ℕ) → Moves m e → (i : ℕ) → i < 5 → at e i < 5
moves_small m e o = small_at 5 e o.ordered

pub moves : (m row : ℕ) → Few m → row < factorial m → Moves m (ordering row)
moves m row f h =
    let l : row < 120 = omega (arith, factorial_le m f) in
    record { ordered = row_is row l; still = (first_rows m row f l).0 h }

-- and back: such an ordering is one of the first m! rows
pub moves_row : (m : ℕ) (e : List ℕ) → Few m → Moves m e → (row : ℕ) × (row < factorial m) × (ordering row ≡ e)
moves_row m e f o =
    let r = row_of e o.ordered in
    (r.0, (first_rows m r.0 f r.1).1 (λ i h. ap (λ (l : List ℕ). at l i) r.2 ∙ o.still i h), r.2)

-- the moved numbers stay among the last m
pub moves_high : (m : ℕ) (e : List ℕ) → Moves m e → (i : ℕ) → 5 - m ≤ i → i < 5 → 5 - m ≤ at e i
moves_high m e o i l h = go (dec_lt (at e i) (5 - m))
  where
    go : Dec (at e i < 5 - m) → 5 - m ≤ at e i
    go (yes q) = absurd (let z : at e i ≡ i = o.ordered.once (at e i) i (moves_small m e o i h) h (o.still (at e i) q) in omega arith)
    go (no q) = omega arith

-- ---- one after the other
pub at_composed : (g h : List ℕ) (i : ℕ) → i < length g → at (composed g h) i ≡ at h (at g i)
unfolding composed
at_composed g h i l = at_map (at h) g i l

pub length_composed : (g h : List ℕ) → length (composed g h) ≡ length g
unfolding composed
length_composed g h = length-map g (at h)

pub ordering_composed : (n : ℕ) (e f : List ℕ) → Ordering n e → Ordering n f → Ordering n (composed e f)
ordering_composed n e f o u =
    let sized : length (composed e f) ≡ n = length_composed e f ∙ o.sized in
    let step : (i : ℕ) → i < n → at (composed e f) i ≡ at f (at e i) = λ i h. at_composed e f i (omega (arith, o.sized)) in
    let small : (i : ℕ) → i < n → at e i < n = small_at n e o in
    ordering_of n (composed e f) sized
    (λ x k. let q = at_mem (composed e f) x k in
    let h : q.0 < n = omega (arith, q.1, sized) in
    subst (λ (y : ℕ). y < n) (sym (step q.0 h) ∙ q.2) (small_at n f u (at e q.0) (small q.0 h)))
    (apart_distinct (composed e f) (λ i j h k q. let a : i < n = omega (arith, sized) in let b : j < n = omega (arith, sized) in o.once i j a b
    (u.once (at e i) (at e j) (small i a) (small j b) (sym (step i a) ∙ q ∙ step j b))))

pub moves_composed : (m : ℕ) (e f : List ℕ) → Moves m e → Moves m f → Moves m (composed e f)
moves_composed m e f o u = record {
  ordered = ordering_composed 5 e f o.ordered u.ordered;
  still = λ i h. at_composed e f i (omega (arith, o.ordered.sized)) ∙ ap (at f) (o.still i h) ∙ u.still i h;
}

-- two of the first m! rows, one after the other, are one of them
pub product_row : (m r s : ℕ) → Few m → r < factorial m → s < factorial m → (t : ℕ) × (t < factorial m) × (ordering t ≡ composed (ordering r) (ordering s))
product_row m r s f h k = moves_row m (composed (ordering r) (ordering s)) f (moves_composed m (ordering r) (ordering s) (moves m r f h) (moves m s f k))

-- ---- trades of neighbours
-- row k! trades 4 - k and 5 - k
pub trade_row : (k : ℕ) → 1 ≤ k → k ≤ 4 → ordering (factorial k) ≡ trade k
trade_row k l h = same_eq (ordering (factorial k)) (trade k) (all_e (λ k. same (ordering (factorial k)) (trade k)) (up_from 1 4) trades_tested k (up_from_i 1 4 k l (omega arith)))

pub trade_at : (k : ℕ) → 1 ≤ k → k ≤ 4 → (at (ordering (factorial k)) (4 - k) ≡ 5 - k) × (at (ordering (factorial k)) (5 - k) ≡ 4 - k)
unfolding trade
trade_at k l h =
    let n : length (below 5) ≡ 5 = (ordering_below 5).sized in
    let s = set (below 5) (4 - k) (5 - k) in
    let n' : length s ≡ 5 = length-set (below 5) (4 - k) (5 - k) ∙ n in (
      ap (λ (e : List ℕ). at e (4 - k)) (trade_row k l h) ∙ at_set_other s (5 - k) (4 - k) (4 - k) (λ q. omega arith) ∙ at_set (below 5) (4 - k) (5 - k) (omega arith),
      ap (λ (e : List ℕ). at e (5 - k)) (trade_row k l h) ∙ at_set s (5 - k) (4 - k) (omega arith),
    )

-- each of the first m! rows but row 0 is such a trade of the last m numbers, and then an earlier row
pub generated : (m row : ℕ) → Few m → 1 ≤ row → row < factorial m → (k : ℕ) × (s : ℕ) × (1 ≤ k) × (k < m) × (factorial k ≤ row) × (s < row) ×
    (ordering row ≡ composed (ordering (factorial k)) (ordering s))
unfolding trade_test ordering
generated m row f l h =
    let big : row < 120 = omega (arith, factorial_le m f) in
    let e = ordering row in
    let byTrade : ℕ → Bool = λ k. both (leb (factorial k) row) (any (λ f. same e (composed (ordering (factorial k)) f)) (take row orderings)) in
    ⊎_elim (λ t. absurd (let q : row ≡ 0 = eqb→eq row 0 t in omega arith))
    (λ t.
    let a = any_e byTrade (up_from 1 4) t in
    let k = a.0 in
    let i = up_from_e 1 4 k a.1 in
    let low = leb→le (factorial k) row (both_l (leb (factorial k) row) _ a.2) in
    let b = any_e (λ f. same e (composed (ordering (factorial k)) f)) (take row orderings) (both_r (leb (factorial k) row) _ a.2) in
    let c = place_of (take row orderings) b.0 [] b.1 in
    let s = c.0 in
    let z : s < row = subst (λ (n : ℕ). s < n) (length-take-le row orderings (omega (arith, count))) c.1 in
    (k, s, i.0, factorial_less m k row f a.1 low h, low, z, same_eq e _ b.2 ∙ ap (composed (ordering (factorial k))) (sym c.2 ∙ get_or-take row orderings s [] z)))
    (either_e (eqb row 0) (any byTrade (up_from 1 4)) (both_r (prefix_test row e) (trade_test row e) (tested_at row big)))
