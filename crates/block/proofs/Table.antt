-- The table of orderings: 600 numbers whose rows of five are orderings and ascend are all orderings in order. Assumes nothing.
use Rattle.model.specs.Kit.{◌≡◌, refl, sym, ap, ap₂, ◌∙◌, subst, List, [], ◌∷◌, ◌++◌, Memᴰ, Memᴰ-head, Memᴰ-tail, ℕ, zero, suc, ◌+◌, ◌*◌, ◌<◌, not-suc-le-zero, le_of_suc-le-suc, arith}
use Rattle.model.specs.Kit.{T, eqb, ltb, eqb→eq, ltb→lt, lt→ltb, length, get_or, take, drop, length-drop, take-append-drop, get_or-drop, eq-eqb}
use Rattle.model.specs.{Lists.both, Lists.all, Lists.flat, Lists.at, Lists.earlier, Lists.rows_ascend, Sheet.distinct}
use lib.Seq.{take_at, drop_at}
use Rattle.order.specs.Order.{Ordering}
use Rattle.block.specs.{Block.orderings, Block.ordering, BlockClaims.fives, BlockClaims.is_ordering, BlockClaims.is_table, BlockClaims.TableRows, BlockClaims.TableRowsClaim, BlockClaims.TablePasses}
use Rattle.model.proofs.Lists.{T_of, both_i, both_l, both_r, all_i, all_e, earlier_asym, at_take}
use Rattle.order.proofs.Reordered.{apart_distinct}
use Rattle.block.proofs.Ascending.{rows_ascend_sorted, sorted_all}
use Rattle.block.proofs.Orderings.{ordering_of, ordering_row, row_ordering, orderings_sorted, orderings_ascend, count}

-- ---- rows of five
length_fives : (k : ℕ) (l : List ℕ) → length (fives k l) ≡ k
unfolding fives
length_fives zero l = refl
length_fives (suc k) l = ap suc (length_fives k (drop 5 l))

at_fives : (k : ℕ) (l : List ℕ) (row i : ℕ) → row < k → i < 5 → at (get_or (fives k l) row []) i ≡ at l (5 * row + i)
unfolding fives at
at_fives zero l row i h u = absurd (not-suc-le-zero h)
at_fives (suc k) l zero i h u = at_take 5 l i u ∙ ap (at l) (omega arith)
at_fives (suc k) l (suc row) i h u =
    let e : 5 + (5 * row + i) ≡ 5 * suc row + i = omega arith in
    at_fives k (drop 5 l) row i (le_of_suc-le-suc h) u ∙ get_or-drop 5 l (5 * row + i) 0 ∙ ap (at l) e

flat_fives : (k : ℕ) (l : List ℕ) → length l ≡ 5 * k → flat (fives k l) ≡ l
unfolding fives flat
flat_fives zero [] e = refl
flat_fives zero (x ∷ l) e = absurd (omega arith)
flat_fives (suc k) l e = ap (λ (r : List ℕ). take 5 l ++ r) (flat_fives k (drop 5 l) (omega (arith, length-drop 5 l))) ∙ take-append-drop 5 l

fives_flat : (ls : List (List ℕ)) → ((l : List ℕ) → Memᴰ l ls → length l ≡ 5) → fives (length ls) (flat ls) ≡ ls
unfolding fives flat
fives_flat [] h = refl
fives_flat (l ∷ ls) h =
    let e = h l (Memᴰ-head refl) in
    ap₂ (λ (r : List ℕ) (rs : List (List ℕ)). r ∷ rs) (take_at l (flat ls) 5 e) (ap (fives (length ls)) (drop_at l (flat ls) 5 e) ∙ fives_flat ls (λ r m. h r (Memᴰ-tail m)))

-- ---- the test
is_ordering_lem : (e : List ℕ) → T (is_ordering e) → Ordering 5 e
unfolding is_ordering
is_ordering_lem e t =
    let sized = eqb→eq (length e) 5 (both_l (eqb (length e) 5) _ t) in
    let u = both_r (eqb (length e) 5) _ t in
    ordering_of 5 e sized (λ x m. ltb→lt x 5 (all_e (λ v. ltb v 5) e (both_l (all (λ v. ltb v 5) e) (distinct e) u) x m)) (both_r (all (λ v. ltb v 5) e) (distinct e) u)

module _ (l : List ℕ) (t : T (is_table l)) where
  each_ordering : (e : List ℕ) → Memᴰ e (fives 120 l) → Ordering 5 e
  unfolding is_table
  each_ordering e m = is_ordering_lem e (all_e is_ordering (fives 120 l) (both_l (all is_ordering (fives 120 l)) (rows_ascend (fives 120 l)) t) e m)

  ascend : T (rows_ascend (fives 120 l))
  unfolding is_table
  ascend = both_r (all is_ordering (fives 120 l)) (rows_ascend (fives 120 l)) t

  -- 120 orderings that ascend are all of them
  rows_all : fives 120 l ≡ orderings
  rows_all =
      sorted_all (λ (x y : List ℕ). T (earlier x y)) earlier_asym (fives 120 l) orderings (rows_ascend_sorted (fives 120 l) ascend) orderings_sorted
      (λ e m. ordering_row e (each_ordering e m)) (omega (arith, count, length_fives 120 l))

  table_is : TableRows l
  table_is = record {
    each = each_ordering;
    ascend = ascend;
    all_there = λ e o. subst (λ (ls : List (List ℕ)). Memᴰ e ls) (sym rows_all) (ordering_row e o);
    rows = rows_all;
    numbers = λ n. sym (flat_fives 120 l n) ∙ ap flat rows_all;
  }

pub table_rows : TableRowsClaim
table_rows = table_is

flat_rows : fives 120 (flat orderings) ≡ orderings
flat_rows = ap (λ (k : ℕ). fives k (flat orderings)) (sym count) ∙ fives_flat orderings (λ e m. (row_ordering e m).sized)

ordering_is : (e : List ℕ) → Ordering 5 e → T (is_ordering e)
unfolding is_ordering
ordering_is e o =
    both_i (eqb (length e) 5) (both (all (λ v. ltb v 5) e) (distinct e)) (T_of (eqb (length e) 5) (eq-eqb (length e) 5 o.sized))
    (both_i (all (λ v. ltb v 5) e) (distinct e) (all_i (λ v. ltb v 5) e (λ x m. lt→ltb x 5 (o.inside x m)))
    (apart_distinct e (λ i j h k. o.once i j (omega (arith, o.sized)) (omega (arith, o.sized)))))

pub table_passes : TablePasses
unfolding is_table
table_passes =
    subst (λ (ls : List (List ℕ)). T (both (all is_ordering ls) (rows_ascend ls))) (sym flat_rows)
    (both_i (all is_ordering orderings) (rows_ascend orderings) (all_i is_ordering orderings (λ e m. ordering_is e (row_ordering e m))) orderings_ascend)

-- number i of a row
pub table_at_lem : (row i : ℕ) → row < 120 → i < 5 → at (flat orderings) (5 * row + i) ≡ at (ordering row) i
unfolding ordering
table_at_lem row i h u =
    sym (at_fives 120 (flat orderings) row i h u)
    ∙ ap (λ (ls : List (List ℕ)). at (get_or ls row []) i) flat_rows
