-- The laws of the reordered problem. Assumes nothing.
use Rattle.model.specs.Kit.{◌≡◌, refl, sym, ap, ap₂, ◌∙◌, subst, subst₂, Bool, true, false, List, [], ◌∷◌, map, Memᴰ, Memᴰ-head, Memᴰ-cases_cons, Memᴰ-cast, Memᴰ-map, Memᴰ-of_map, ◌↔◌}
use Rattle.model.specs.Kit.{◌⊎◌, inl, inr, ⊎_elim, ℕ, zero, suc, ◌*◌, ◌/◌, ◌%◌, ◌^◌, ◌≤◌, ◌<◌, not-suc-le-zero, le_of_suc-le-suc, lt_of_lt_of_le, ℕ_discrete, dec_lt, arith, T, eqb, ltb, eqb→eq}
use Rattle.model.specs.Kit.{length}
use Rattle.model.specs.Kit.{length-map, eq-eqb, ne_eqb, lt-ltb}
use Rattle.model.specs.Problem.{Problem, Constraint, pair, is_pair, pairs_of, pairs_at, within, takes, forbidden, doubled, excluded, respects, assignments, values_at, satisfies, is_solution}
use Rattle.model.specs.{Lists.both, Lists.all, Lists.any, Lists.below, Lists.at, Lists.same, Lists.ascending, ValueSets.has, ValueSets.least, ValueSets.members, Sheet.permutes_pairs, Sheet.distinct}
use mathlib.Core.List.Memᴰ
use native.Mathlib.Nat.{div-lt_iff_lt-mul}
use Rattle.model.specs.Inner.WellFormed.{WellFormed, GoodConstraint, GoodSymmetry, Respected}
use Rattle.order.specs.Order.{Ordering}
use Rattle.order.specs.Reordered.{position, read, write, value_of, scope_in, row_in, constraint_in, renamed, symmetry_in, reordered}
use Rattle.model.proofs.Lists.{both_i, TDec, T_of, of_not, TExt, all_i, all_e, any_i, any_e, keep_i, keep_e, among_i, among_e, map_ext, below_i, below_e, length_below, at_below, at_map, at_ext}
use Rattle.model.proofs.Lists.{mem_at, at_mem, same_eq, same_refl, Sorted, sorted_keep, sorted_below, sorted_ext, ascending_sorted}
use Rattle.model.proofs.Masks.{least_at, least_below, least_is}
use Rattle.model.proofs.{Counting.distinct_below, Counting.no_more, Sets.members_e, Assignments.assign_i, Assignments.assign_e, Tree.solution_i, Tree.solution_e}
use Rattle.model.proofs.Pairs as P
use Rattle.model.proofs.Symmetry as S
use Rattle.model.proofs.Leaders as H

-- ---- positions
pub position_e : (l : List ℕ) (x : ℕ) → Memᴰ x l → (position l x < length l) × (at l (position l x) ≡ x)
unfolding position
position_e l x m =
    let r = at_mem l x m in
    let f : ℕ → Bool = λ i. eqb (at l i) x in
    let h : r.0 < least (length l) f → ⊥ = λ k. of_not (f r.0) (least_below (length l) f r.0 k) (T_of (f r.0) (eq-eqb (at l r.0) x r.2)) in
    let b : least (length l) f < length l = omega (arith, r.1) in
    (b, eqb→eq (at l (least (length l) f)) x (T_of (f (least (length l) f)) (least_is (length l) f b)))

-- no number stands at two indices
abbrev pub Apart : List ℕ → Type 0
Apart l = (i j : ℕ) → i < length l → j < length l → at l i ≡ at l j → i ≡ j

pub position_at : (l : List ℕ) → Apart l → (i : ℕ) → i < length l → position l (at l i) ≡ i
unfolding position
position_at l a i h =
    least_at (length l) (λ j. eqb (at l j) (at l i)) i h
    (λ j k. ne_eqb (at l j) (at l i) (λ e. let q : j ≡ i = a j i (omega arith) h e in omega arith)) (eq-eqb (at l i) (at l i) refl)

pub apart_distinct : (l : List ℕ) → Apart l → T (distinct l)
apart_distinct l a =
    subst (λ (m : List ℕ). T (distinct m)) (at_ext (map (at l) (below (length l))) l (length_below (at l) (length l))
    (λ i h. at_below (at l) (length l) i (omega (arith, length_below (at l) (length l)))))
    (distinct_below (at l) (length l) a)

apart_map : (f : ℕ → ℕ) (l : List ℕ) → Apart l → ((x y : ℕ) → Memᴰ x l → Memᴰ y l → f x ≡ f y → x ≡ y) → Apart (map f l)
apart_map f l a h i j p q e =
    let p' : i < length l = omega (arith, length-map l f) in
    let q' : j < length l = omega (arith, length-map l f) in
    a i j p' q' (h (at l i) (at l j) (mem_at l i p') (mem_at l j q') (sym (at_map f l i p') ∙ e ∙ at_map f l j q'))

-- ascending lists
sorted_at : (l : List ℕ) → Sorted (λ (x y : ℕ). x < y) l → (i j : ℕ) → i < j → j < length l → at l i < at l j
unfolding at
sorted_at [] s i j h k = absurd (not-suc-le-zero k)
sorted_at (x ∷ l) s i zero h k = absurd (not-suc-le-zero h)
sorted_at (x ∷ l) s zero (suc j) h k = s.0 (at l j) (mem_at l j (le_of_suc-le-suc k))
sorted_at (x ∷ l) s (suc i) (suc j) h k = sorted_at l s.1 i j (le_of_suc-le-suc h) (le_of_suc-le-suc k)

pub sorted_apart : (l : List ℕ) → Sorted (λ (x y : ℕ). x < y) l → Apart l
sorted_apart l s i j h k e = go (ℕ_discrete i j) (dec_lt i j)
  where
    go : Dec (i ≡ j) → Dec (i < j) → i ≡ j
    go (yes q) d = q
    go (no q) (yes d) = absurd (let z = sorted_at l s i j d k in omega arith)
    go (no q) (no d) = absurd (let c : j < i = omega arith in let z = sorted_at l s j i c h in omega arith)

pub ascending_of : (l : List ℕ) → Sorted (λ (x y : ℕ). x < y) l → T (ascending l)
unfolding ascending
ascending_of [] s = tt
ascending_of (x ∷ []) s = tt
ascending_of (x ∷ y ∷ l) s = go (ascending_of (y ∷ l) s.1) (ltb x y) (lt-ltb x y (s.0 y (Memᴰ-head refl)))
  where
    go : T (ascending (y ∷ l)) → (b : Bool) → b ≡ true → T (elim b [ true ↦ ascending (y ∷ l) | false ↦ false ])
    go ih true e = ih
    go ih false e = absurd (subst T (sym e) tt)

-- ---- rows of a scope by the values of its variables
value_map : (f : ℕ → ℕ) (xs : List ℕ) (x : ℕ) → Memᴰ x xs → value_of xs (map f xs) x ≡ f x
unfolding value_of
value_map f xs x m = let r = position_e xs x m in at_map f xs (position xs x) r.0 ∙ ap f r.1

pub row_values : (xs r : List ℕ) → Apart xs → length r ≡ length xs → map (value_of xs r) xs ≡ r
unfolding value_of
row_values xs r a e =
    at_ext (map (value_of xs r) xs) r (length-map xs (value_of xs r) ∙ sym e)
    (λ i h. let k : i < length xs = omega (arith, length-map xs (value_of xs r)) in at_map (value_of xs r) xs i k ∙ ap (at r) (position_at xs a i k))

-- drawn from sets
drawn_value : (D : ℕ → ℕ) (xs vs : List ℕ) → Memᴰ vs (assignments (map D xs)) → (length vs ≡ length xs) × ((x : ℕ) → Memᴰ x xs → Memᴰ (value_of xs vs x) (members (D x)))
unfolding value_of
drawn_value D xs vs m =
    let r = assign_e (map D xs) vs m in (
      r.0 ∙ length-map xs D,
      λ x k. let q = position_e xs x k in
          let l : position xs x < length (map D xs) = omega (arith, q.0, length-map xs D) in
          subst (λ (s : ℕ). Memᴰ (at vs (position xs x)) (members s)) (at_map D xs (position xs x) q.0 ∙ ap D q.1) (r.1 (position xs x) l),
    )

drawn_map : (D f : ℕ → ℕ) (xs : List ℕ) → ((x : ℕ) → Memᴰ x xs → Memᴰ (f x) (members (D x))) → Memᴰ (map f xs) (assignments (map D xs))
drawn_map D f xs h =
    assign_i (map D xs) (map f xs) (length-map xs f ∙ sym (length-map xs D))
    (λ i l. let k : i < length xs = omega (arith, length-map xs D) in
    subst₂ (λ (v s : ℕ). Memᴰ v (members s)) (sym (at_map f xs i k)) (sym (at_map D xs i k)) (h (at xs i) (mem_at xs i k)))

pairs_at_map : (p : Problem) (f : ℕ → ℕ) (xs : List ℕ) → pairs_at p xs (map f xs) ≡ map (λ x. pair p x (f x)) xs
unfolding pairs_at
pairs_at_map p f [] = refl
pairs_at_map p f (x ∷ xs) = ap (λ (r : List ℕ). pair p x (f x) ∷ r) (pairs_at_map p f xs)

-- ---- the reordered problem
module _ (p : Problem) (order : List ℕ) (o : Ordering p.variables order) where
  abbrev n : ℕ
  n = p.variables

  abbrev d : ℕ
  d = p.values

  abbrev place : ℕ → ℕ
  place i = at order i

  abbrev stand : ℕ → ℕ
  stand x = position order x

  pub place_lt : (i : ℕ) → i < n → place i < n
  place_lt i h = o.inside (place i) (mem_at order i (omega (arith, o.sized)))

  order_apart : Apart order
  order_apart i j h k e = o.once i j (omega (arith, o.sized)) (omega (arith, o.sized)) e

  pub stand_lt : (x : ℕ) → x < n → stand x < n
  stand_lt x h = omega (arith, (position_e order x (o.each x h)).0, o.sized)

  pub place_stand : (x : ℕ) → x < n → place (stand x) ≡ x
  place_stand x h = (position_e order x (o.each x h)).1

  pub stand_place : (i : ℕ) → i < n → stand (place i) ≡ i
  stand_place i h = position_at order order_apart i (omega (arith, o.sized))

  -- ---- rows of all variables: reading and writing undo each other
  pub read_length : (a : List ℕ) → length (read order a) ≡ n
  unfolding read
  read_length a = length-map order (at a) ∙ o.sized

  pub read_at : (a : List ℕ) (i : ℕ) → i < n → at (read order a) i ≡ at a (place i)
  unfolding read
  read_at a i h = at_map (at a) order i (omega (arith, o.sized))

  pub write_length : (r : List ℕ) → length (write order r) ≡ n
  unfolding write
  write_length r = length_below (λ x. at r (stand x)) (length order) ∙ o.sized

  pub write_at : (r : List ℕ) (x : ℕ) → x < n → at (write order r) x ≡ at r (stand x)
  unfolding write
  write_at r x h = at_below (λ x. at r (stand x)) (length order) x (omega (arith, o.sized))

  pub write_read : (a : List ℕ) → length a ≡ n → write order (read order a) ≡ a
  write_read a e =
      at_ext (write order (read order a)) a (write_length (read order a) ∙ sym e)
      (λ x h. let l : x < n = omega (arith, write_length (read order a)) in write_at (read order a) x l ∙ read_at a (stand x) (stand_lt x l) ∙ ap (at a) (place_stand x l))

  pub read_write : (r : List ℕ) → length r ≡ n → read order (write order r) ≡ r
  read_write r e =
      at_ext (read order (write order r)) r (read_length (write order r) ∙ sym e)
      (λ i h. let l : i < n = omega (arith, read_length (write order r)) in read_at (write order r) i l ∙ write_at r (place i) (place_lt i l) ∙ ap (at r) (stand_place i l))

  pub read_inj : (a b : List ℕ) → length a ≡ n → length b ≡ n → read order a ≡ read order b → a ≡ b
  read_inj a b e f q = sym (write_read a e) ∙ ap (write order) q ∙ write_read b f

  -- ---- scopes and their rows
  module _ (xs : List ℕ) (inside : (x : ℕ) → Memᴰ x xs → x < n) (asc : T (ascending xs)) where
    abbrev ys : List ℕ
    ys = scope_in order xs

    pub scope_i : (i : ℕ) → i < n → Memᴰ (place i) xs → Memᴰ i (scope_in order xs)
    unfolding scope_in
    scope_i i h m = keep_i (λ i. any (eqb (at order i)) xs) (below (length order)) i (below_i (length order) i (omega (arith, o.sized))) (among_i (place i) xs m)

    pub scope_e : (i : ℕ) → Memᴰ i (scope_in order xs) → (i < n) × Memᴰ (place i) xs
    unfolding scope_in
    scope_e i m =
        let r = keep_e (λ i. any (eqb (at order i)) xs) (below (length order)) i m in
        (omega (arith, below_e (length order) i r.0, o.sized), among_e (place i) xs r.1)

    pub scope_sorted : Sorted (λ (x y : ℕ). x < y) (scope_in order xs)
    unfolding scope_in
    scope_sorted = sorted_keep (λ (x y : ℕ). x < y) (λ i. any (eqb (at order i)) xs) (below (length order)) (sorted_below (length order))

    pub stand_in : (x : ℕ) → Memᴰ x xs → Memᴰ (position order x) (scope_in order xs)
    stand_in x m = scope_i (stand x) (stand_lt x (inside x m)) (Memᴰ-cast (place_stand x (inside x m)) m)

    pub scope_any : (i : ℕ) → i < n → any (eqb i) (scope_in order xs) ≡ any (eqb (at order i)) xs
    scope_any i h = TExt (any (eqb i) ys) (any (eqb (place i)) xs) (λ t. among_i (place i) xs (scope_e i (among_e i ys t)).1) (λ t. among_i i ys (scope_i i h (among_e (place i) xs t)))

    -- it is the list of the variables' positions, sorted
    pub scope_is : (l : List ℕ) → Sorted (λ (x y : ℕ). x < y) l → ((i : ℕ) → Memᴰ i l ↔ Memᴰ i (map (position order) xs)) → l ≡ scope_in order xs
    scope_is l s h =
        sorted_ext (λ (x y : ℕ). x < y) (λ x y p q. omega arith) l ys s scope_sorted
        (λ i m. let r = Memᴰ-of_map (position order) xs ((h i).0 m) in Memᴰ-cast (sym r.2) (stand_in r.0 r.1))
        (λ i m. let r = scope_e i m in (h i).1 (Memᴰ-cast (sym (stand_place i r.0)) (Memᴰ-map (position order) r.1)))

    xs_apart : Apart xs
    xs_apart = sorted_apart xs (ascending_sorted xs asc)

    ys_apart : Apart ys
    ys_apart = sorted_apart ys scope_sorted

    pub scope_length : length (scope_in order xs) ≡ length xs
    scope_length =
        let a : length (map (at order) ys) ≤ length xs = no_more (map (at order) ys) xs
        (apart_distinct (map (at order) ys) (apart_map (at order) ys ys_apart (λ i j k l e. o.once i j (scope_e i k).0 (scope_e j l).0 e)))
        (λ x m. let r = Memᴰ-of_map (at order) ys m in Memᴰ-cast (sym r.2) (scope_e r.0 r.1).1) in
        let b : length (map (position order) xs) ≤ length ys = no_more (map (position order) xs) ys
        (apart_distinct (map (position order) xs) (apart_map (position order) xs xs_apart (λ x y k l e. sym (place_stand x (inside x k)) ∙ ap place e ∙ place_stand y (inside y l))))
        (λ i m. let r = Memᴰ-of_map (position order) xs m in Memᴰ-cast (sym r.2) (stand_in r.0 r.1)) in
        omega (arith, length-map ys (at order), length-map xs (position order))

    pub row_length : (r : List ℕ) → length (row_in order xs r) ≡ length xs
    unfolding row_in
    row_length r = length-map ys (λ i. value_of xs r (place i)) ∙ scope_length

    -- and column k of a row is the column of the variable that stands at position ys[k]
    pub row_at : (r : List ℕ) (k : ℕ) → k < length xs → at (row_in order xs r) k ≡ at r (position xs (at order (at (scope_in order xs) k)))
    unfolding row_in value_of
    row_at r k h = at_map (λ i. at r (position xs (place i))) ys k (omega (arith, scope_length))

    -- a row back to the scope as it was
    row_out : List ℕ → List ℕ
    row_out r = map (λ x. value_of ys r (stand x)) xs

    row_in_out : (r : List ℕ) → length r ≡ length ys → row_in order xs (row_out r) ≡ r
    unfolding row_in row_out
    row_in_out r e =
        map_ext (λ i. value_of xs (row_out r) (place i)) (value_of ys r) ys
        (λ i m. let k = scope_e i m in value_map (λ x. value_of ys r (stand x)) xs (place i) k.1 ∙ ap (value_of ys r) (stand_place i k.0))
        ∙ row_values ys r ys_apart e

    row_out_in : (r : List ℕ) → length r ≡ length xs → row_out (row_in order xs r) ≡ r
    unfolding row_in row_out
    row_out_in r e =
        map_ext (λ x. value_of ys (row_in order xs r) (stand x)) (value_of xs r) xs
        (λ x m. value_map (λ i. value_of xs r (place i)) ys (stand x) (stand_in x m) ∙ ap (value_of xs r) (place_stand x (inside x m)))
        ∙ row_values xs r xs_apart e

    pub row_inj : (r s : List ℕ) → length r ≡ length xs → length s ≡ length xs → row_in order xs r ≡ row_in order xs s → r ≡ s
    row_inj r s e f q = sym (row_out_in r e) ∙ ap row_out q ∙ row_out_in s f

    -- the values of a scope, read in the order
    pub values_read : (a : List ℕ) → values_at (read order a) (scope_in order xs) ≡ row_in order xs (values_at a xs)
    unfolding values_at row_in
    values_read a =
        map_ext (at (read order a)) (λ i. value_of xs (map (at a) xs) (place i)) ys
        (λ i m. let k = scope_e i m in read_at a i k.0 ∙ sym (value_map (at a) xs (place i) k.1))

    -- a row of length xs is among some rows exactly if it is among them in the order
    pub rows_same : (rows : List (List ℕ)) → ((r : List ℕ) → Memᴰ r rows → length r ≡ length xs) → (v : List ℕ) → length v ≡ length xs →
        any (same v) rows ≡ any (same (row_in order xs v)) (map (row_in order xs) rows)
    rows_same rows sized v e =
        TExt (any (same v) rows) (any (same (row_in order xs v)) (map (row_in order xs) rows))
        (λ t. let r = any_e (same v) rows t in
        any_i (same (row_in order xs v)) (map (row_in order xs) rows) (row_in order xs r.0) (Memᴰ-map (row_in order xs) r.1)
        (subst (λ (u : List ℕ). T (same (row_in order xs v) (row_in order xs u))) (same_eq v r.0 r.2) (same_refl (row_in order xs v))))
        (λ t. let r = any_e (same (row_in order xs v)) (map (row_in order xs) rows) t in
        let k = Memᴰ-of_map (row_in order xs) rows r.1 in
        let q : v ≡ k.0 = row_inj v k.0 e (sized k.0 k.1) (same_eq (row_in order xs v) r.0 r.2 ∙ sym k.2) in
        any_i (same v) rows k.0 k.1 (subst (λ (u : List ℕ). T (same v u)) q (same_refl v)))

    -- and a row in the order is among them exactly if, with its columns as in xs, it was
    pub rows_back : (rows : List (List ℕ)) → ((r : List ℕ) → Memᴰ r rows → length r ≡ length xs) → (v : List ℕ) → length v ≡ length xs →
        any (same v) (map (row_in order xs) rows) ≡ any (same (map (λ x. value_of (scope_in order xs) v (position order x)) xs)) rows
    unfolding row_out
    rows_back rows sized v e =
        ap (λ (u : List ℕ). any (same u) (map (row_in order xs) rows)) (sym (row_in_out v (e ∙ sym scope_length)))
        ∙ sym (rows_same rows sized (row_out v) (length-map xs (λ x. value_of ys v (stand x))))

  module _ (w : WellFormed p) where
    abbrev size : ℕ
    size = p.variables * p.values

    -- ---- pairs: (i, v) of the reordered problem is (order[i], v) of p
    abbrev from : ℕ → ℕ
    from q = renamed p (at order) q

    abbrev into : ℕ → ℕ
    into q = renamed p (position order) q

    pub from_pair : (i v : ℕ) → v < p.values → renamed p (at order) (pair p i v) ≡ pair p (at order i) v
    unfolding renamed
    from_pair i v h = ap₂ (λ (a b : ℕ). pair p (place a) b) (P.pair_div p i v h) (P.pair_mod p i v h)

    into_pair : (x v : ℕ) → v < d → into (pair p x v) ≡ pair p (stand x) v
    unfolding renamed
    into_pair x v h = ap₂ (λ (a b : ℕ). pair p (stand a) b) (P.pair_div p x v h) (P.pair_mod p x v h)

    pub var_lt : (q : ℕ) → q < size → q / d < n
    var_lt q h = (div-lt_iff_lt-mul w.one).1 h

    from_lt : (q : ℕ) → q < size → from q < size
    unfolding renamed
    from_lt q h = P.pair_lt p (place (q / d)) (q % d) (place_lt (q / d) (var_lt q h)) (P.mod_small p w q)

    into_lt : (q : ℕ) → q < size → into q < size
    unfolding renamed
    into_lt q h = P.pair_lt p (stand (q / d)) (q % d) (stand_lt (q / d) (var_lt q h)) (P.mod_small p w q)

    into_from : (q : ℕ) → q < size → into (from q) ≡ q
    into_from q h =
        ap (λ (z : ℕ). into (from z)) (sym (P.pair_of p q)) ∙ ap into (from_pair (q / d) (q % d) (P.mod_small p w q)) ∙ into_pair (place (q / d)) (q % d) (P.mod_small p w q)
        ∙ ap (λ (z : ℕ). pair p z (q % d)) (stand_place (q / d) (var_lt q h)) ∙ P.pair_of p q

    from_into : (q : ℕ) → q < size → from (into q) ≡ q
    from_into q h =
        ap (λ (z : ℕ). from (into z)) (sym (P.pair_of p q)) ∙ ap from (into_pair (q / d) (q % d) (P.mod_small p w q)) ∙ from_pair (stand (q / d)) (q % d) (P.mod_small p w q)
        ∙ ap (λ (z : ℕ). pair p z (q % d)) (place_stand (q / d) (var_lt q h)) ∙ P.pair_of p q

    from_div : (q : ℕ) → from q / d ≡ place (q / d)
    unfolding renamed
    from_div q = P.pair_div p (place (q / d)) (q % d) (P.mod_small p w q)

    from_mod : (q : ℕ) → from q % d ≡ q % d
    unfolding renamed
    from_mod q = P.pair_mod p (place (q / d)) (q % d) (P.mod_small p w q)

    pub into_div : (q : ℕ) → renamed p (position order) q / p.values ≡ position order (q / p.values)
    unfolding renamed
    into_div q = P.pair_div p (stand (q / d)) (q % d) (P.mod_small p w q)

    pub into_mod : (q : ℕ) → renamed p (position order) q % p.values ≡ q % p.values
    unfolding renamed
    into_mod q = P.pair_mod p (stand (q / d)) (q % d) (P.mod_small p w q)

    pub pair_same : (i v : ℕ) → pair (reordered order p) i v ≡ pair p i v
    unfolding pair
    pair_same i v = refl

    -- the sets, and which numbers are pairs
    pub set_at : (i : ℕ) → i < n → at (read order p.initial) i ≡ at p.initial (place i)
    set_at i h = read_at p.initial i h

    is_pair_same : (q : ℕ) → q < size → is_pair (reordered order p) q ≡ is_pair p (from q)
    unfolding is_pair
    is_pair_same q h =
        let v = var_lt q h in
        let e : from q / d ≡ place (q / d) = from_div q in
        let f : from q % d ≡ q % d = from_mod q in
        ap₂ both (lt-ltb q size h ∙ sym (lt-ltb (from q) size (from_lt q h))) (ap (λ (s : ℕ). has s (q % d)) (set_at (q / d) v) ∙ sym (ap₂ (λ (x u : ℕ). has (at p.initial x) u) e f))

    -- ---- constraints
    pub constraint_in_lem : (c : Constraint) → Memᴰ c p.constraints → GoodConstraint (reordered order p) (constraint_in order c)
    unfolding row_in value_of
    constraint_in_lem c m =
        let g = w.constrained c m in
        let xs = c.scope in
        let len : length (scope_in order xs) ≡ length xs = scope_length xs g.inside g.ordered in
        record {
          some = subst (λ (k : ℕ). 1 ≤ k) (sym len) g.some;
          few = subst (λ (k : ℕ). k ≤ 3) (sym len) g.few;
          inside = λ i k. (scope_e xs g.inside g.ordered i k).0;
          ordered = ascending_of (scope_in order xs) (scope_sorted xs g.inside g.ordered);
          sized = λ r k. let q = Memᴰ-of_map (row_in order xs) c.rows k in ap length (sym q.2) ∙ row_length xs g.inside g.ordered q.0 ∙ sym len;
          valued = λ r k v j.
              let q = Memᴰ-of_map (row_in order xs) c.rows k in
              let z = Memᴰ-of_map (λ i. value_of xs q.0 (place i)) (scope_in order xs) (subst (Memᴰ v) (sym q.2) j) in
              let s = scope_e xs g.inside g.ordered z.0 z.1 in
              let e = position_e xs (place z.0) s.1 in
              let l : position xs (place z.0) < length q.0 = omega (arith, e.0, g.sized q.0 q.1) in
              subst (λ (u : ℕ). u < d) z.2 (g.valued q.0 q.1 (at q.0 (position xs (place z.0))) (mem_at q.0 (position xs (place z.0)) l));
        }

    -- ---- solutions
    pub satisfies_read : (a : List ℕ) (c : Constraint) → Memᴰ c p.constraints → satisfies a c ≡ satisfies (read order a) (constraint_in order c)
    unfolding satisfies values_at
    satisfies_read a c m =
        let g = w.constrained c m in
        let xs = c.scope in
        rows_same xs g.inside g.ordered c.rows g.sized (values_at a xs) (length-map xs (at a))
        ∙ ap (λ (v : List ℕ). any (same v) (map (row_in order xs) c.rows)) (sym (values_read xs g.inside g.ordered a))

    -- a row is a solution of p exactly if, read in the order, it is one of the reordered problem
    pub solution_read : (a : List ℕ) → length a ≡ n → is_solution p a ≡ is_solution (reordered order p) (read order a)
    solution_read a e =
        TExt (is_solution p a) (is_solution (reordered order p) (read order a))
        (λ t. let s = solution_e p a t in solution_i (reordered order p) (read order a) record {
          sized = read_length a;
          drawn = λ i h. subst₂ (λ (u v : ℕ). T (has u v)) (sym (set_at i h)) (sym (read_at a i h)) (s.drawn (place i) (place_lt i h));
          satisfied = λ c k. let q = Memᴰ-of_map (constraint_in order) p.constraints k in
              subst (λ (z : Constraint). T (satisfies (read order a) z)) q.2 (subst T (satisfies_read a q.0 q.1) (s.satisfied q.0 q.1));
        })
        (λ t. let s = solution_e (reordered order p) (read order a) t in solution_i p a record {
          sized = e;
          drawn = λ x h. subst₂ (λ (u v : ℕ). T (has u v))
              (set_at (stand x) (stand_lt x h) ∙ ap (at p.initial) (place_stand x h)) (read_at a (stand x) (stand_lt x h) ∙ ap (at a) (place_stand x h)) (s.drawn (stand x) (stand_lt x h));
          satisfied = λ c k. subst T (sym (satisfies_read a c k)) (s.satisfied (constraint_in order c) (Memᴰ-map (constraint_in order) k));
        })

    pub solution_write : (r : List ℕ) → length r ≡ n → is_solution (reordered order p) r ≡ is_solution p (write order r)
    solution_write r e = sym (solution_read (write order r) (write_length r) ∙ ap (is_solution (reordered order p)) (read_write r e))

    -- ---- forbidden sets, both ways
    init_16 : (x v : ℕ) → x < n → T (has (at p.initial x) v) → (v < d) × (v < 16)
    init_16 x v h t = let l = P.init_lt p w.narrow x v h t in (l, lt_of_lt_of_le l w.sixteen)

    two_map : (f : ℕ → ℕ) (q a b c e : ℕ) → f a ≡ c → f b ≡ e → Memᴰ q (c ∷ e ∷ []) → Memᴰ q (map f (a ∷ b ∷ []))
    two_map f q a b c e x y m = subst₂ (λ (u v : ℕ). Memᴰ q (u ∷ v ∷ [])) (sym x) (sym y) m

    doubled_from : (i : ℕ) (f : List ℕ) → i < n → Memᴰ f (doubled (reordered order p) i) → (h : List ℕ) × Memᴰ h (forbidden p) × ((q : ℕ) → Memᴰ q h → Memᴰ q (map from f))
    doubled_from i f l m =
        let r = P.doubled_e (reordered order p) i f m in
        let v = r.0 in
        let u = r.1 in
        let x = place i in
        let hv : T (has (at p.initial x) v) = subst (λ (s : ℕ). T (has s v)) (set_at i l) r.2 in
        let hu : T (has (at p.initial x) u) = subst (λ (s : ℕ). T (has s u)) (set_at i l) r.3 in
        let bv = init_16 x v (place_lt i l) hv in
        let bu = init_16 x u (place_lt i l) hu in
        let f2 = pair p i v ∷ pair p i u ∷ [] in
        let e : f ≡ f2 = r.5 ∙ ap₂ (λ (a b : ℕ). a ∷ b ∷ []) (pair_same i v) (pair_same i u) in (
          pair p x v ∷ pair p x u ∷ [],
          P.forbidden_doubled p x (pair p x v ∷ pair p x u ∷ []) (place_lt i l) (P.doubled_i p x v u r.4 bu.1 hv hu),
          λ q k. subst (λ (z : List ℕ). Memᴰ q (map from z)) (sym e)
              (two_map from q (pair p i v) (pair p i u) (pair p x v) (pair p x u) (from_pair i v bv.0) (from_pair i u bu.0) k),
        )

    doubled_into : (x : ℕ) (f : List ℕ) → x < n → Memᴰ f (doubled p x) → (h : List ℕ) × Memᴰ h (forbidden (reordered order p)) × ((q : ℕ) → Memᴰ q h → Memᴰ q (map into f))
    doubled_into x f l m =
        let r = P.doubled_e p x f m in
        let v = r.0 in
        let u = r.1 in
        let i = stand x in
        let li : i < n = stand_lt x l in
        let es : at p.initial x ≡ at (read order p.initial) i = ap (at p.initial) (sym (place_stand x l)) ∙ sym (set_at i li) in
        let bv = init_16 x v l r.2 in
        let bu = init_16 x u l r.3 in
        let p2 = reordered order p in
        let h = pair p2 i v ∷ pair p2 i u ∷ [] in (
          h,
          P.forbidden_doubled p2 i h li (P.doubled_i p2 i v u r.4 bu.1 (subst (λ (s : ℕ). T (has s v)) es r.2) (subst (λ (s : ℕ). T (has s u)) es r.3)),
          λ q k. subst (λ (z : List ℕ). Memᴰ q (map into z)) (sym r.5)
              (two_map into q (pair p x v) (pair p x u) (pair p2 i v) (pair p2 i u) (into_pair x v bv.0 ∙ sym (pair_same i v)) (into_pair x u bu.0 ∙ sym (pair_same i u)) k),
        )

    -- the pairs of a row that is given by its values
    row_pairs : (P2 : Problem) (xs r : List ℕ) → Apart xs → length r ≡ length xs → pairs_at P2 xs r ≡ map (λ x. pair P2 x (value_of xs r x)) xs
    row_pairs P2 xs r a e = ap (pairs_at P2 xs) (sym (row_values xs r a e)) ∙ pairs_at_map P2 (value_of xs r) xs

    excluded_from : (c : Constraint) (f : List ℕ) → Memᴰ c p.constraints → Memᴰ f (excluded (reordered order p) (constraint_in order c)) → (h : List ℕ) × Memᴰ h (forbidden p) ×
        ((q : ℕ) → Memᴰ q h → Memᴰ q (map from f))
    unfolding row_out
    excluded_from c f m k =
        let g = w.constrained c m in
        let xs = c.scope in
        let p2 = reordered order p in
        let ys' = scope_in order xs in
        let r = P.excluded_e p2 (constraint_in order c) f k in
        let vs = r.0 in
        let D = drawn_value (at (read order p.initial)) ys' vs r.1 in
        let us : List ℕ = map (λ x. value_of ys' vs (stand x)) xs in
        let back : row_in order xs us ≡ vs = row_in_out xs g.inside g.ordered vs D.0 in
        let hold : (x : ℕ) → Memᴰ x xs → Memᴰ (value_of ys' vs (stand x)) (members (at p.initial x)) = λ x j.
        let l = g.inside x j in
        subst (λ (s : ℕ). Memᴰ (value_of ys' vs (stand x)) (members s)) (set_at (stand x) (stand_lt x l) ∙ ap (at p.initial) (place_stand x l))
        (D.1 (stand x) (stand_in xs g.inside g.ordered x j)) in
        let none : T (any (same us) c.rows) → ⊥ = λ t. r.2
        (subst (λ (v : List ℕ). T (any (same v) (map (row_in order xs) c.rows))) back
        (subst T (rows_same xs g.inside g.ordered c.rows g.sized us (length-map xs (λ x. value_of ys' vs (stand x)))) t)) in
        let h = pairs_at p xs us in (
          h,
          P.forbidden_excluded p c h m (P.excluded_i p c us (drawn_map (at p.initial) (λ x. value_of ys' vs (stand x)) xs hold) none),
          λ q j. let z = Memᴰ-of_map (λ x. pair p x (value_of ys' vs (stand x))) xs (subst (Memᴰ q) (pairs_at_map p (λ x. value_of ys' vs (stand x)) xs) j) in
              let x = z.0 in
              let l = g.inside x z.1 in
              let small : value_of ys' vs (stand x) < d = P.init_lt p w.narrow x (value_of ys' vs (stand x)) l (members_e (at p.initial x) (value_of ys' vs (stand x)) (hold x z.1)).1 in
              let e : f ≡ map (λ i. pair p2 i (value_of ys' vs i)) ys' = r.3 ∙ row_pairs p2 ys' vs (sorted_apart ys' (scope_sorted xs g.inside g.ordered)) D.0 in
              subst (λ (y : List ℕ). Memᴰ q (map from y)) (sym e)
              (Memᴰ-cast (sym z.2 ∙ ap (λ (y : ℕ). pair p y (value_of ys' vs (stand x))) (sym (place_stand x l)) ∙ sym (from_pair (stand x) (value_of ys' vs (stand x)) small) ∙ ap from
              (sym (pair_same (stand x) (value_of ys' vs (stand x)))))
              (Memᴰ-map from (Memᴰ-map (λ i. pair p2 i (value_of ys' vs i)) (stand_in xs g.inside g.ordered x z.1)))),
        )

    excluded_into : (c : Constraint) (f : List ℕ) → Memᴰ c p.constraints → Memᴰ f (excluded p c) → (h : List ℕ) × Memᴰ h (forbidden (reordered order p)) ×
        ((q : ℕ) → Memᴰ q h → Memᴰ q (map into f))
    unfolding row_in
    excluded_into c f m k =
        let g = w.constrained c m in
        let xs = c.scope in
        let p2 = reordered order p in
        let ys' = scope_in order xs in
        let c2 = constraint_in order c in
        let r = P.excluded_e p c f k in
        let vs = r.0 in
        let D = drawn_value (at p.initial) xs vs r.1 in
        let us : List ℕ = map (λ i. value_of xs vs (place i)) ys' in
        let hold : (i : ℕ) → Memᴰ i ys' → Memᴰ (value_of xs vs (place i)) (members (at (read order p.initial) i)) = λ i j.
        let l = scope_e xs g.inside g.ordered i j in
        subst (λ (s : ℕ). Memᴰ (value_of xs vs (place i)) (members s)) (sym (set_at i l.0)) (D.1 (place i) l.1) in
        let none : T (any (same us) (map (row_in order xs) c.rows)) → ⊥ = λ t. r.2 (subst T (sym (rows_same xs g.inside g.ordered c.rows g.sized vs D.0)) t) in
        let h = pairs_at p2 ys' us in (
          h,
          P.forbidden_excluded p2 c2 h (Memᴰ-map (constraint_in order) m) (P.excluded_i p2 c2 us (drawn_map (at (read order p.initial)) (λ i. value_of xs vs (place i)) ys' hold) none),
          λ q j. let z = Memᴰ-of_map (λ i. pair p2 i (value_of xs vs (place i))) ys' (subst (Memᴰ q) (pairs_at_map p2 (λ i. value_of xs vs (place i)) ys') j) in
              let i = z.0 in
              let l = scope_e xs g.inside g.ordered i z.1 in
              let v = value_of xs vs (place i) in
              let small : v < d = P.init_lt p w.narrow (place i) v (place_lt i l.0) (members_e (at p.initial (place i)) v (D.1 (place i) l.1)).1 in
              let e : f ≡ map (λ x. pair p x (value_of xs vs x)) xs = r.3 ∙ row_pairs p xs vs (sorted_apart xs (ascending_sorted xs g.ordered)) D.0 in
              subst (λ (y : List ℕ). Memᴰ q (map into y)) (sym e)
              (Memᴰ-cast (sym z.2 ∙ pair_same i v ∙ ap (λ (y : ℕ). pair p y v) (sym (stand_place i l.0)) ∙ sym (into_pair (place i) v small))
              (Memᴰ-map into (Memᴰ-map (λ x. pair p x (value_of xs vs x)) l.1))),
        )

    forbidden_from : (f : List ℕ) → Memᴰ f (forbidden (reordered order p)) → (h : List ℕ) × Memᴰ h (forbidden p) × ((q : ℕ) → Memᴰ q h → Memᴰ q (map from f))
    forbidden_from f m =
        ⊎_elim {C = (h : List ℕ) × Memᴰ h (forbidden p) × ((q : ℕ) → Memᴰ q h → Memᴰ q (map from f))}
        (λ k. doubled_from k.0 f k.1 k.2)
        (λ k. let c = Memᴰ-of_map (constraint_in order) p.constraints k.1 in excluded_from c.0 f c.1
        (subst (λ (z : Constraint). Memᴰ f (excluded (reordered order p) z)) (sym c.2) k.2))
        (P.forbidden_e (reordered order p) f m)

    forbidden_into : (f : List ℕ) → Memᴰ f (forbidden p) → (h : List ℕ) × Memᴰ h (forbidden (reordered order p)) × ((q : ℕ) → Memᴰ q h → Memᴰ q (map into f))
    forbidden_into f m =
        ⊎_elim {C = (h : List ℕ) × Memᴰ h (forbidden (reordered order p)) × ((q : ℕ) → Memᴰ q h → Memᴰ q (map into f))}
        (λ k. doubled_into k.0 f k.1 k.2) (λ k. excluded_into k.0 f k.1 k.2) (P.forbidden_e p f m)

    -- the numbers of a forbidden set are pairs
    forbidden_lt : (f : List ℕ) → Memᴰ f (forbidden (reordered order p)) → (q : ℕ) → Memᴰ q f → q < size
    forbidden_lt f m q k =
        ⊎_elim {C = q < size}
        (λ x. let r = P.doubled_e p2 x.0 f x.2 in
        let low : (v : ℕ) → T (has (at (read order p.initial) x.0) v) → pair p x.0 v < size = λ v t.
        P.pair_lt p x.0 v x.1 (P.init_lt p w.narrow (place x.0) v (place_lt x.0 x.1) (subst (λ (s : ℕ). T (has s v)) (set_at x.0 x.1) t)) in
        ⊎_elim {C = q < size} (λ e. subst (λ (z : ℕ). z < size) (sym (e ∙ pair_same x.0 r.0)) (low r.0 r.2))
        (λ j. subst (λ (z : ℕ). z < size) (sym (Memᴰ.eq_of_singleton j ∙ pair_same x.0 r.1)) (low r.1 r.3))
        (Memᴰ-cases_cons (subst (Memᴰ q) r.5 k)))
        (λ x. let c = Memᴰ-of_map (constraint_in order) p.constraints x.1 in rule_lt c.0 c.1 (subst (λ (z : Constraint). Memᴰ f (excluded (reordered order p) z)) (sym c.2) x.2))
        (P.forbidden_e p2 f m)
      where
        p2 : Problem
        p2 = reordered order p

        rule_lt : (c : Constraint) → Memᴰ c p.constraints → Memᴰ f (excluded (reordered order p) (constraint_in order c)) → q < size
        rule_lt c m j =
            let g = w.constrained c m in
            let ys' = scope_in order c.scope in
            let r = P.excluded_e (reordered order p) (constraint_in order c) f j in
            let D = drawn_value (at (read order p.initial)) ys' r.0 r.1 in
            let e = r.3 ∙ row_pairs (reordered order p) ys' r.0 (sorted_apart ys' (scope_sorted c.scope g.inside g.ordered)) D.0 in
            let z = Memᴰ-of_map (λ i. pair (reordered order p) i (value_of ys' r.0 i)) ys' (subst (Memᴰ q) e k) in
            let l = scope_e c.scope g.inside g.ordered z.0 z.1 in
            let v = value_of ys' r.0 z.0 in
            subst (λ (y : ℕ). y < size) (sym (pair_same z.0 v) ∙ z.2)
            (P.pair_lt p z.0 v l.0 (P.init_lt p w.narrow (place z.0) v (place_lt z.0 l.0)
            (subst (λ (s : ℕ). T (has s v)) (set_at z.0 l.0) (members_e (at (read order p.initial) z.0) v (D.1 z.0 z.1)).1)))

    -- ---- symmetries
    module _ (g : List ℕ) (good : GoodSymmetry p g) where
      abbrev g2 : List ℕ
      g2 = symmetry_in order p g

      pub table_at_lem : (q : ℕ) → q < size → at (symmetry_in order p g) q ≡ into (at g (from q))
      unfolding symmetry_in
      table_at_lem q h = at_below (λ q. into (at g (from q))) size q h

      table_length : length (symmetry_in order p g) ≡ size
      unfolding symmetry_in
      table_length = length_below (λ q. into (at g (from q))) size

      pub image_lt : (q : ℕ) → q < size → at g q < size
      image_lt q h = go (TDec (is_pair p q))
        where
          go : T (is_pair p q) ⊎ (T (is_pair p q) → ⊥) → at g q < size
          go (inl t) = P.is_pair_lt p (at g q) (S.to_pair p w g good q t)
          go (inr t) = subst (λ (k : ℕ). k < size) (sym (S.to_self p w g good q h t)) h

      table_permutes : T (permutes_pairs (reordered order p) (symmetry_in order p g))
      unfolding permutes_pairs
      table_permutes =
          both_i (all (λ q. elim (is_pair (reordered order p) q) [ true ↦ is_pair (reordered order p) (at g2 q) | false ↦ eqb (at g2 q) q ]) (below size)) (distinct g2)
          (all_i (λ q. elim (is_pair (reordered order p) q) [ true ↦ is_pair (reordered order p) (at g2 q) | false ↦ eqb (at g2 q) q ]) (below size) (λ q m. each q (below_e size q m)))
          (table_distinct)
        where
          pick : (b c e : Bool) → (T b → T c) → ((T b → ⊥) → T e) → T (elim b [ true ↦ c | false ↦ e ])
          pick true c e f h = f tt
          pick false c e f h = h (λ z. z)

          each : (q : ℕ) → q < size → T (elim (is_pair (reordered order p) q) [ true ↦ is_pair (reordered order p) (at (symmetry_in order p g) q) | false ↦ eqb (at (symmetry_in order p g) q) q ])
          each q h =
              pick (is_pair (reordered order p) q) (is_pair (reordered order p) (at g2 q)) (eqb (at g2 q) q)
              (λ t. let s : T (is_pair p (at g (from q))) = S.to_pair p w g good (from q) (subst T (is_pair_same q h) t) in
              let l = image_lt (from q) (from_lt q h) in
              subst T (sym (ap (is_pair (reordered order p)) (table_at_lem q h) ∙ is_pair_same (into (at g (from q))) (into_lt (at g (from q)) l) ∙ ap (is_pair p) (from_into (at g (from q)) l))) s)
              (λ t. T_of (eqb (at g2 q) q) (eq-eqb (at g2 q) q (table_at_lem q h ∙ ap into (S.to_self p w g good (from q) (from_lt q h) (λ s. t (subst T (sym (is_pair_same q h)) s)))
              ∙ into_from q h)))

          table_distinct : T (distinct (symmetry_in order p g))
          table_distinct = apart_distinct (symmetry_in order p g) (λ i j h k e.
              let hi : i < size = omega (arith, table_length) in
              let hj : j < size = omega (arith, table_length) in
              let a : into (at g (from i)) ≡ into (at g (from j)) = sym (table_at_lem i hi) ∙ e ∙ table_at_lem j hj in
              let b : at g (from i) ≡ at g (from j) = sym (from_into (at g (from i)) (image_lt (from i) (from_lt i hi))) ∙ ap from a ∙ from_into (at g (from j)) (image_lt (from j) (from_lt j hj)) in
              sym (into_from i hi) ∙ ap into (S.injective p w g good (from i) (from j) (from_lt i hi) (from_lt j hj) b) ∙ into_from j hj)

      carried : (f a b c : List ℕ) → ((q : ℕ) → Memᴰ q f → q < size) → ((q : ℕ) → Memᴰ q a → Memᴰ q (map from f)) → ((q : ℕ) → Memᴰ q b → Memᴰ q (map (at g) a)) →
          ((q : ℕ) → Memᴰ q c → Memᴰ q (map into b)) → (q : ℕ) → Memᴰ q c → Memᴰ q (map (at (symmetry_in order p g)) f)
      carried f a b c small fa ab bc q k =
          let x = Memᴰ-of_map into b (bc q k) in
          let y = Memᴰ-of_map (at g) a (ab x.0 x.1) in
          let z = Memᴰ-of_map from f (fa y.0 y.1) in
          let e : at g2 z.0 ≡ q = table_at_lem z.0 (small z.0 z.1) ∙ ap (λ (u : ℕ). into (at g u)) z.2 ∙ ap into y.2 ∙ x.2 in
          Memᴰ-cast (sym e) (Memᴰ-map (at g2) z.1)

      pub table_respects : T (respects p g) → T (respects (reordered order p) (symmetry_in order p g))
      unfolding respects
      table_respects respectful =
          all_i (λ f. any (λ h. within h (map (at g2) f)) (forbidden p2)) (forbidden p2)
          (λ f m.
          let a = forbidden_from f m in
          let b = respected a.0 a.1 in
          let c = forbidden_into b.0 b.1 in
          any_i (λ h. within h (map (at g2) f)) (forbidden p2) c.0 c.1 (P.within_i c.0 (map (at g2) f) (carried f a.0 b.0 c.0 (forbidden_lt f m) a.2 b.2 c.2)))
        where
          p2 : Problem
          p2 = reordered order p

          respected : (f : List ℕ) → Memᴰ f (forbidden p) → (h : List ℕ) × Memᴰ h (forbidden p) × ((q : ℕ) → Memᴰ q h → Memᴰ q (map (at g) f))
          respected f m =
              let r = any_e (λ h. within h (map (at g) f)) (forbidden p) (all_e (λ f. any (λ h. within h (map (at g) f)) (forbidden p)) (forbidden p) respectful f m) in
              (r.0, r.1, P.within_e r.0 (map (at g) f) r.2)

      pub symmetry_in_lem : GoodSymmetry (reordered order p) (symmetry_in order p g)
      symmetry_in_lem = record { sized = table_length; permutes = table_permutes }

      -- ---- where a symmetry takes a row, for rows of values below d
      abbrev Small : List ℕ → Type 0
      Small a = (x : ℕ) → x < p.variables → at a x < p.values

      pairs_into : (a : List ℕ) → Small a → (q : ℕ) → Memᴰ q (pairs_of p a) → (q < size) × Memᴰ (into q) (pairs_of (reordered order p) (read order a))
      pairs_into a small q m =
          let r = P.pairs_e p a q m in
          let x = r.0 in
          let l = r.1 in
          let i = stand x in
          let li = stand_lt x l in
          let e : into q ≡ pair (reordered order p) i (at (read order a) i) =
          ap into r.2 ∙ into_pair x (at a x) (small x l) ∙ ap (pair p i) (ap (at a) (sym (place_stand x l)) ∙ sym (read_at a i li)) ∙ sym (pair_same i (at (read order a) i)) in
          (subst (λ (z : ℕ). z < size) (sym r.2) (P.pair_lt p x (at a x) l (small x l)), Memᴰ-cast e (P.pairs_i (reordered order p) (read order a) i li))

      pairs_from : (a : List ℕ) → Small a → (q : ℕ) → Memᴰ q (pairs_of (reordered order p) (read order a)) → (q < size) × Memᴰ (from q) (pairs_of p a)
      pairs_from a small q m =
          let r = P.pairs_e (reordered order p) (read order a) q m in
          let i = r.0 in
          let l = r.1 in
          let v = at a (place i) in
          let sv = small (place i) (place_lt i l) in
          let e : q ≡ pair p i v = r.2 ∙ pair_same i (at (read order a) i) ∙ ap (pair p i) (read_at a i l) in
          (subst (λ (z : ℕ). z < size) (sym e) (P.pair_lt p i v l sv), Memᴰ-cast (ap from e ∙ from_pair i v sv) (P.pairs_i p a (place i) (place_lt i l)))

      takes_of : (P2 : Problem) (k a b : List ℕ) → ((q : ℕ) → Memᴰ q (pairs_of P2 a) → Memᴰ (at k q) (pairs_of P2 b)) →
          ((q : ℕ) → Memᴰ q (pairs_of P2 b) → (r : ℕ) × Memᴰ r (pairs_of P2 a) × (at k r ≡ q)) → T (takes P2 k a b)
      unfolding takes
      takes_of P2 k a b h l =
          both_i (within (map (at k) (pairs_of P2 a)) (pairs_of P2 b)) (within (pairs_of P2 b) (map (at k) (pairs_of P2 a)))
          (P.within_i (map (at k) (pairs_of P2 a)) (pairs_of P2 b) (λ q m. let r = Memᴰ-of_map (at k) (pairs_of P2 a) m in Memᴰ-cast (sym r.2) (h r.0 r.1)))
          (P.within_i (pairs_of P2 b) (map (at k) (pairs_of P2 a)) (λ q m. let r = l q m in Memᴰ-cast (sym r.2) (Memᴰ-map (at k) r.1)))

      -- g takes a to b exactly if its renamed table takes a to b, both read in the order
      pub takes_read : (a b : List ℕ) → ((x : ℕ) → x < p.variables → at a x < p.values) → ((x : ℕ) → x < p.variables → at b x < p.values) →
          takes p g a b ≡ takes (reordered order p) (symmetry_in order p g) (read order a) (read order b)
      takes_read a b sa sb =
          TExt (takes p g a b) (takes p2 g2 (read order a) (read order b))
          (λ t. takes_of p2 g2 (read order a) (read order b)
          (λ q m. let r = pairs_from a sa q m in Memᴰ-cast (table_at_lem q r.0) (pairs_into b sb (at g (from q)) (H.takes_in p g a b t (from q) r.1)).1)
          (λ q m. let r = pairs_from b sb q m in
          let k = H.takes_on p g a b t (from q) r.1 in
          let j = pairs_into a sa k.0 k.1 in
          (into k.0, j.1, table_at_lem (into k.0) (into_lt k.0 j.0) ∙ ap (λ (z : ℕ). into (at g z)) (from_into k.0 j.0) ∙ ap into k.2 ∙ into_from q r.0)))
          (λ t. takes_of p g a b
          (λ q m. let r = pairs_into a sa q m in
          let e : at g2 (into q) ≡ into (at g q) = table_at_lem (into q) (into_lt q r.0) ∙ ap (λ (z : ℕ). into (at g z)) (from_into q r.0) in
          Memᴰ-cast (sym (from_into (at g q) (image_lt q r.0)) ∙ ap from (sym e)) (pairs_from b sb (at g2 (into q)) (H.takes_in p2 g2 (read order a) (read order b) t (into q) r.1)).1)
          (λ q m. let r = pairs_into b sb q m in
          let k = H.takes_on p2 g2 (read order a) (read order b) t (into q) r.1 in
          let j = pairs_from a sa k.0 k.1 in
          let e : into (at g (from k.0)) ≡ into q = sym (table_at_lem k.0 j.0) ∙ k.2 in
          (from k.0, j.1, sym (from_into (at g (from k.0)) (image_lt (from k.0) (from_lt k.0 j.0))) ∙ ap from e ∙ from_into q r.0)))
        where
          p2 : Problem
          p2 = reordered order p

    -- ---- a well-formed problem stays well-formed
    pub well_reordered : WellFormed (reordered order p)
    well_reordered = record {
      some = w.some;
      few = w.few;
      one = w.one;
      sixteen = w.sixteen;
      sized = read_length p.initial;
      nonempty = λ i h. subst (λ (s : ℕ). 0 < s) (sym (set_at i h)) (w.nonempty (place i) (place_lt i h));
      narrow = λ i h. subst (λ (s : ℕ). s < 2 ^ p.values) (sym (set_at i h)) (w.narrow (place i) (place_lt i h));
      most = let l = length-map p.constraints (constraint_in order) in let f = w.most in omega arith;
      constrained = λ c m. let r = Memᴰ-of_map (constraint_in order) p.constraints m in subst (GoodConstraint (reordered order p)) r.2 (constraint_in_lem r.0 r.1);
      symmetric = λ g m. let r = Memᴰ-of_map (symmetry_in order p) p.symmetries m in subst (GoodSymmetry (reordered order p)) r.2 (symmetry_in_lem r.0 (w.symmetric r.0 r.1));
    }

    -- and its symmetries go on respecting it
    pub respected_reordered : Respected p → Respected (reordered order p)
    respected_reordered q = record {
      respectful = λ g m. let r = Memᴰ-of_map (symmetry_in order p) p.symmetries m in subst (λ (h : List ℕ). T (respects (reordered order p) h)) r.2
          (table_respects r.0 (w.symmetric r.0 r.1) (q.respectful r.0 r.1));
    }
