-- The arrays of the reordered problem, from what the parts leave. Assumes nothing.
use Rattle.model.specs.Kit.{◌≡◌, refl, sym, ap, ap₂, ◌∙◌, subst, Bool, false, List, [], ◌∷◌, ◌++◌, map, Memᴰ, Memᴰ-head, Memᴰ-tail, ℕ, zero, suc, ◌+◌, ◌*◌, ◌/◌, ◌%◌, ◌^◌, ◌≤◌, ◌<◌}
use Rattle.model.specs.Kit.{not-suc-le-zero, le_of_suc-le-suc, dec_lt, arith, eqb, length, get_or, length-map}
use Rattle.model.specs.{Lists.any, Lists.at, Lists.same, ValueSets.has, ValueSets.mask_of, ValueSets.least, ValueSets.least_step, Problem.Problem, Problem.Constraint, Problem.pair}
use Rattle.model.specs.{Problem.constraint_at}
use Rattle.model.specs.{Problem.symmetry_at, Inner.WellFormed.WellFormed, Inner.WellFormed.GoodConstraint, Inner.WellFormed.GoodSymmetry, Inner.Filling.Filled}
use mathlib.Core.Path.{fun_ext}
use Rattle.order.specs.{Order.Ordering, Reordered.position, Reordered.value_of, Reordered.scope_in, Reordered.constraint_in, Reordered.renamed, Reordered.symmetry_in, Reordered.reordered}
use Rattle.model.proofs.Sets.{has_mask}
use Rattle.model.proofs.Lists.{not_of, any_e, same_eq, among_e, mem_at, mem_get_d, at_take, at_map, ascending_sorted, length_snoc, at_small_2}
use Rattle.arrays.specs.Inner.Layout.{place, Numbers, Supports, Images}
use Rattle.arrays.proofs.Links.{good}
use Rattle.arrays_order.specs.{Inner.Reorder.order_of, Inner.Reorder.Movable, Inner.Reorder.Moved, Inner.Steps.stand, Inner.Steps.Small, Inner.Steps.MovedSets}
use Rattle.arrays_order.specs.Inner.Steps.{renamed_to, MovedImages, Narrow, Meant, Sorting, Scope, Renamed}
use Rattle.arrays_order.proofs.Tables.{mask_none}
use Rattle.order.proofs.Reordered as R
use Rattle.model.proofs.Pairs as P

-- ---- lists
least_same : (k : ℕ) (f g : ℕ → Bool) → ((i : ℕ) → i < k → f i ≡ g i) → least k f ≡ least k g
unfolding least
least_same zero f g h = refl
least_same (suc k) f g h = ap₂ least_step (h 0 (omega arith)) (least_same k (λ i. f (suc i)) (λ i. g (suc i)) (λ i l. h (suc i) (omega arith)))

get_d_map : {A B : Type 0} (f : A → B) (l : List A) (k : ℕ) (d : A) (e : B) → k < length l → get_or (map f l) k e ≡ f (get_or l k d)
get_d_map f [] k d e h = absurd (not-suc-le-zero h)
get_d_map f (x ∷ l) zero d e h = refl
get_d_map f (x ∷ l) (suc k) d e h = get_d_map f l k d e (le_of_suc-le-suc h)

map_twice : (f g : ℕ → ℕ) (l : List ℕ) → map f (map g l) ≡ map (λ x. f (g x)) l
map_twice f g [] = refl
map_twice f g (x ∷ l) = ap (λ (r : List ℕ). f (g x) ∷ r) (map_twice f g l)

-- ---- what the arrays hold
module _ (p : Problem) (order numbers supports images : List ℕ) (m : Movable p order numbers supports images) where
  abbrev ord : List ℕ
  ord = order_of p order

  abbrev o : Ordering p.variables (order_of p order)
  o = m.ordering

  abbrev w : WellFormed p
  w = m.well_formed

  abbrev q : Problem
  q = reordered (order_of p order) p

  pub variables_is : at numbers 64 ≡ p.variables
  variables_is = m.compiled.numbered.variables

  pub few_variables : at numbers 64 ≤ 12
  few_variables = omega (arith, variables_is, w.few)

  values_is : at numbers 65 ≡ p.values
  values_is = m.compiled.numbered.values

  pub few_values : at numbers 65 ≤ 16
  few_values = omega (arith, values_is, w.sixteen)

  pub few_constraints : at numbers 66 ≤ 32
  few_constraints = omega (arith, m.compiled.numbered.constraints, w.most)

  pub few_symmetries : 192 * at numbers 67 ≤ length images
  few_symmetries = omega (arith, m.compiled.numbered.symmetries, m.images_length)

  order_at : (i : ℕ) → i < p.variables → at order i ≡ at ord i
  order_at i h = sym (at_take p.variables order i h)

  order_lt : (i : ℕ) → i < p.variables → at order i < p.variables
  order_lt i h = subst (λ (z : ℕ). z < p.variables) (sym (order_at i h)) (R.place_lt p ord o i h)

  pub small : Small (at numbers 64) order
  small i h = let l : i < p.variables = omega (arith, variables_is) in omega (arith, order_lt i l, w.few)

  stand_is : (x : ℕ) → stand (at numbers 64) order x ≡ position ord x
  unfolding position
  stand_is x =
      ap (λ (n : ℕ). least n (λ i. eqb (at order i) x)) (variables_is ∙ sym o.sized)
      ∙ least_same (length ord) (λ i. eqb (at order i) x) (λ i. eqb (at ord i) x) (λ i l. let h : i < p.variables = omega (arith, o.sized) in ap (λ (z : ℕ). eqb z x) (order_at i h))

  -- ---- a constraint
  module _ (k : ℕ) (h : k < length p.constraints) where
    abbrev xs : List ℕ
    xs = (constraint_at p k).scope

    abbrev names : List ℕ
    names = map (position ord) xs

    fine : GoodConstraint p (constraint_at p k)
    fine = good w k h

    xs_lt : (i : ℕ) → i < length xs → at xs i < p.variables
    xs_lt i l = fine.inside (at xs i) (mem_at xs i l)

    constraint_at_lem : constraint_at q k ≡ constraint_in ord (constraint_at p k)
    constraint_at_lem = get_d_map (constraint_in ord) p.constraints k (record { scope = []; rows = [] }) (record { scope = []; rows = [] }) h

    names_long : length names ≡ length xs
    names_long = length-map xs (position ord)

    name_at : (i : ℕ) → i < length xs → at names i ≡ position ord (at xs i)
    name_at i l = at_map (position ord) xs i l

    names_apart : R.Apart names
    names_apart i j k l e =
        let i' : i < length xs = omega (arith, names_long) in
        let j' : j < length xs = omega (arith, names_long) in
        let e' : position ord (at xs i) ≡ position ord (at xs j) = sym (name_at i i') ∙ e ∙ name_at j j' in
        R.sorted_apart xs (ascending_sorted xs fine.ordered) i j i' j' (sym (R.place_stand p ord o (at xs i) (xs_lt i i')) ∙ ap (at ord) e' ∙ R.place_stand p ord o (at xs j) (xs_lt j j'))

    scope_of : (stands : List ℕ) (word : ℕ) → word ≡ at numbers (32 + k) → ((x : ℕ) → x < p.variables → at stands x ≡ position ord x) → Scope stands word names
    scope_of stands word e s = record {
      arity = ap (λ (z : ℕ). z % 256) e ∙ m.compiled.numbered.arity k h ∙ sym names_long;
      some = omega (arith, fine.some, names_long);
      few = omega (arith, fine.few, names_long);
      variable = λ i l. let j : i < length xs = omega (arith, names_long) in omega (arith, digit i j, xs_lt i j, w.few);
      name = λ i l. let j : i < length xs = omega (arith, names_long) in ap (at stands) (digit i j) ∙ s (at xs i) (xs_lt i j) ∙ sym (name_at i j);
      small = λ i l. let j : i < length xs = omega (arith, names_long) in omega (arith, name_at i j, R.stand_lt p ord o (at xs i) (xs_lt i j), w.few);
      apart = names_apart;
    }
      where
        digit : (i : ℕ) → i < length xs → word / 256 ^ suc i % 256 ≡ at xs i
        digit i j = ap (λ (z : ℕ). z / 256 ^ suc i % 256) e ∙ m.compiled.numbered.scope k i h j

    -- no row has a value from d on
    no_row : (r : List ℕ) (v : ℕ) → Memᴰ v r → at numbers 65 ≤ v → any (same r) (constraint_at p k).rows ≡ false
    no_row r v i l = not_of (any (same r) (constraint_at p k).rows) (λ t.
        let a = any_e (same r) (constraint_at p k).rows t in
        let b : v < p.values = fine.valued a.0 a.1 v (subst (λ (s : List ℕ). Memᴰ v s) (same_eq r a.0 a.2) i) in
        omega (arith, values_is))

    narrow : length names ≡ 3 → Narrow (at numbers 65) (256 * k) supports
    narrow e = record {
      first = λ a b l i j. row a b i j ∙ mask_none _ (λ u n. no_row (a ∷ b ∷ u ∷ []) a (Memᴰ-head refl) l);
      second = λ a b i l j. row a b i j ∙ mask_none _ (λ u n. no_row (a ∷ b ∷ u ∷ []) b (Memᴰ-tail (Memᴰ-head refl)) l);
      last = λ a b v i j l n. ap (λ (z : ℕ). has z v) (row a b i j) ∙ has_mask 16 (λ u. any (same (a ∷ b ∷ u ∷ [])) (constraint_at p k).rows) v n ∙ no_row (a ∷ b ∷ v ∷ []) v
          (Memᴰ-tail (Memᴰ-tail (Memᴰ-head refl))) l;
    }
      where
        row : (a b : ℕ) → a < 16 → b < 16 → at supports (256 * k + (16 * a + b)) ≡ mask_of (λ u. any (same (a ∷ b ∷ u ∷ [])) (constraint_at p k).rows)
        row a b i j = m.compiled.supported k h (a ∷ b ∷ []) (sym e ∙ names_long) (at_small_2 a b i j)

    -- the constraint's test, of the values by position
    test : (ℕ → ℕ) → Bool
    test f = any (same (map (λ x. f (position ord x)) xs)) (constraint_at p k).rows

    begin_row : (r : List ℕ) → length r ≡ length names → map (λ x. value_of names r (position ord x)) xs ≡ r
    begin_row r e = sym (map_twice (value_of names r) (position ord) xs) ∙ R.row_values names r names_apart e

    begin : Meant test names (256 * k) supports
    unfolding test
    begin vs e l =
        m.compiled.supported k h vs (e ∙ names_long) l
        ∙ ap mask_of (fun_ext (λ v. ap (λ (r : List ℕ). any (same r) (constraint_at p k).rows) (sym (begin_row (vs ++ (v ∷ [])) (length_snoc vs v ∙ e)))))

    -- ---- after it was moved
    module _ (supports' : List ℕ) (word : ℕ) (s : Sorting names (256 * k) supports supports' word) where
      sorted_is : s.sorted ≡ scope_in ord xs
      sorted_is = R.scope_is p ord o xs fine.inside fine.ordered s.sorted s.ascends s.same

      arity_after : word % 256 ≡ length (constraint_at q k).scope
      arity_after = s.arity ∙ ap length sorted_is ∙ ap (λ (c : Constraint). length c.scope) (sym constraint_at_lem)

      scope_after : (i : ℕ) → i < length (constraint_at q k).scope → word / 256 ^ suc i % 256 ≡ at (constraint_at q k).scope i
      scope_after i l =
          let e : length s.sorted ≡ length (constraint_at q k).scope = ap length sorted_is ∙ ap (λ (c : Constraint). length c.scope) (sym constraint_at_lem) in
          let j : i < length s.sorted = omega arith in
          s.scope i j ∙ ap (λ (l : List ℕ). at l i) sorted_is ∙ ap (λ (c : Constraint). at c.scope i) (sym constraint_at_lem)

      row_after : (r : List ℕ) → length r ≡ length xs → test (value_of s.sorted r) ≡ any (same r) (constraint_at q k).rows
      unfolding test
      row_after r e =
          ap (λ (l : List ℕ). any (same (map (λ x. value_of l r (position ord x)) xs)) (constraint_at p k).rows) sorted_is
          ∙ sym (R.rows_back p ord o xs fine.inside fine.ordered (constraint_at p k).rows fine.sized r e)
          ∙ ap (λ (c : Constraint). any (same r) c.rows) (sym constraint_at_lem)

      support_after : (vs : List ℕ) → suc (length vs) ≡ length (constraint_at q k).scope → ((i : ℕ) → i < length vs → at vs i < 16) →
          at supports' (256 * k + place vs) ≡ mask_of (λ v. any (same (vs ++ (v ∷ []))) (constraint_at q k).rows)
      support_after vs e l =
          let a : suc (length vs) ≡ length s.sorted = e ∙ ap (λ (c : Constraint). length c.scope) constraint_at_lem ∙ sym (ap length sorted_is) in
          s.meant test begin vs a l ∙ ap mask_of (fun_ext (λ v. row_after (vs ++ (v ∷ [])) (length_snoc vs v ∙ a ∙ s.long ∙ names_long)))

  -- ---- a symmetry
  module _ (e : ℕ) (h : e < length p.symmetries) where
    abbrev g : List ℕ
    g = symmetry_at p e

    g_good : GoodSymmetry p g
    g_good = w.symmetric g (mem_get_d p.symmetries e [] h)

    symmetry_at_lem : symmetry_at q e ≡ symmetry_in ord p g
    symmetry_at_lem = get_d_map (symmetry_in ord p) p.symmetries e [] [] h

    image_after : (x v : ℕ) → x < p.variables → v < p.values → at (symmetry_at q e) (pair q x v) ≡ renamed p (position ord) (at g (pair p (at order x) v))
    image_after x v l k =
        ap₂ at symmetry_at_lem (R.pair_same p ord o w x v) ∙ R.table_at_lem p ord o w g g_good (pair p x v) (P.pair_lt p x v l k)
        ∙ ap (λ (z : ℕ). renamed p (position ord) (at g z)) (R.from_pair p ord o w x v k ∙ ap (λ (z : ℕ). pair p z v) (sym (order_at x l)))

  -- ---- the parts together
  module _ (stands₀ stands : List ℕ) (f : Filled (λ x. x) (λ x r. r ≡ stand (at numbers 64) order x) (at numbers 64) stands₀ stands) where
    stands_is : (x : ℕ) → x < p.variables → at stands x ≡ position ord x
    stands_is x h = f.here x (omega (arith, variables_is)) ∙ stand_is x

    module _ (mid : List ℕ) (a : MovedSets (at numbers 64) order numbers mid) where
      pub scopes : (k : ℕ) → k < at numbers 66 → (names : List ℕ) × Scope stands (at mid (32 + k)) names × (length names ≡ 3 → Narrow (at numbers 65) (256 * k) supports)
      scopes k h =
          let l : k < length p.constraints = omega (arith, m.compiled.numbered.constraints) in
          (map (position ord) (constraint_at p k).scope, scope_of k l stands (at mid (32 + k)) (a.other (32 + k) (omega arith)) stands_is, narrow k l)

      module _ (numbers' supports' images' : List ℕ) (b : MovedImages (at numbers 64) order stands (at numbers 67) images images')
          (c : Renamed stands (at numbers 66) mid supports numbers' supports') where
        moved_at : (k : ℕ) (h : k < length p.constraints) → Sorting (map (position ord) (constraint_at p k).scope) (256 * k) supports supports' (at numbers' (32 + k))
        moved_at k h = c.moved k (omega (arith, m.compiled.numbered.constraints)) (map (position ord) (constraint_at p k).scope)
            (scope_of k h stands (at mid (32 + k)) (a.other (32 + k) (omega arith)) stands_is)

        low : (j : ℕ) → j < 32 → at numbers' j ≡ at mid j
        low j h = c.other j (λ k l e. omega arith)

        high : (j : ℕ) → 64 ≤ j → at numbers' j ≡ at numbers j
        high j h = c.other j (λ k l e. omega (arith, few_constraints)) ∙ a.other j (omega arith)

        constraints_long : length q.constraints ≡ length p.constraints
        constraints_long = length-map p.constraints (constraint_in ord)

        symmetries_long : length q.symmetries ≡ length p.symmetries
        symmetries_long = length-map p.symmetries (symmetry_in ord p)

        touching_after : (x k : ℕ) → x < 16 → (h : k < length p.constraints) → Dec (x < p.variables) → has (at numbers' x) k ≡ any (eqb x) (constraint_at q k).scope
        touching_after x k l h (yes i) =
            let j : at order x < 16 = omega (arith, order_lt x i, w.few) in
            let t : x < at numbers 64 = omega (arith, variables_is) in
            ap (λ (z : ℕ). has z k) (low x (omega arith) ∙ a.touching x t) ∙ m.compiled.numbered.touching (at order x) k j h
            ∙ ap (λ (z : ℕ). any (eqb z) (constraint_at p k).scope) (order_at x i)
            ∙ sym (R.scope_any p ord o (constraint_at p k).scope (fine k h).inside (fine k h).ordered x i)
            ∙ ap (λ (c : Constraint). any (eqb x) c.scope) (sym (constraint_at_lem k h))
        touching_after x k l h (no i) =
            let t : at numbers 64 ≤ x = omega (arith, variables_is) in
            ap (λ (z : ℕ). has z k) (low x (omega arith) ∙ a.touching_rest x t l) ∙ m.compiled.numbered.touching x k l h
            ∙ not_of (any (eqb x) (constraint_at p k).scope) (λ y. i ((fine k h).inside x (among_e x (constraint_at p k).scope y)))
            ∙ sym (not_of (any (eqb x) (scope_in ord (constraint_at p k).scope)) (λ y. i (R.scope_e p ord o (constraint_at p k).scope (fine k h).inside (fine k h).ordered x
            (among_e x (scope_in ord (constraint_at p k).scope) y)).0))
            ∙ ap (λ (c : Constraint). any (eqb x) c.scope) (sym (constraint_at_lem k h))

        few_after : (x : ℕ) → x < 16 → Dec (x < p.variables) → at numbers' x < 2 ^ length p.constraints
        few_after x l (yes i) =
            let t : x < at numbers 64 = omega (arith, variables_is) in
            subst (λ (z : ℕ). z < 2 ^ length p.constraints) (sym (low x (omega arith) ∙ a.touching x t)) (m.compiled.numbered.touching_few (at order x) (omega (arith, order_lt x i, w.few)))
        few_after x l (no i) =
            let t : at numbers 64 ≤ x = omega (arith, variables_is) in
            subst (λ (z : ℕ). z < 2 ^ length p.constraints) (sym (low x (omega arith) ∙ a.touching_rest x t l)) (m.compiled.numbered.touching_few x l)

        numbers_after : Numbers q numbers'
        numbers_after = record {
          touching = λ x k l h. touching_after x k l (omega (arith, constraints_long)) (dec_lt x p.variables);
          touching_few = λ x l. subst (λ (z : ℕ). at numbers' x < 2 ^ z) (sym constraints_long) (few_after x l (dec_lt x p.variables));
          initial = λ x l.
              let t : x < at numbers 64 = omega (arith, variables_is) in
              let s : 16 + x < 32 = omega (arith, w.few) in
              low (16 + x) s ∙ a.initial x t ∙ m.compiled.numbered.initial (at order x) (order_lt x l) ∙ ap (at p.initial) (order_at x l) ∙ sym (R.set_at p ord o w x l);
          unused = λ x k l.
              let t : at numbers 64 ≤ x = omega (arith, variables_is) in
              low (16 + x) (omega arith) ∙ a.initial_rest x t l ∙ m.compiled.numbered.unused x k l;
          arity = λ k h. let l : k < length p.constraints = omega (arith, constraints_long) in arity_after k l supports' (at numbers' (32 + k)) (moved_at k l);
          scope = λ k i h j. let l : k < length p.constraints = omega (arith, constraints_long) in scope_after k l supports' (at numbers' (32 + k)) (moved_at k l) i j;
          variables = high 64 (omega arith) ∙ variables_is;
          values = high 65 (omega arith) ∙ m.compiled.numbered.values;
          constraints = high 66 (omega arith) ∙ m.compiled.numbered.constraints ∙ sym constraints_long;
          symmetries = high 67 (omega arith) ∙ m.compiled.numbered.symmetries ∙ sym symmetries_long;
        }

        supports_after : Supports q supports'
        supports_after k h = let l : k < length p.constraints = omega (arith, constraints_long) in support_after k l supports' (at numbers' (32 + k)) (moved_at k l)

        -- the image of the pair (order[x], v), as p's arrays have it, renamed
        renamed_image : (i : ℕ) → i < p.variables * p.values → renamed_to stands (16 * (i / p.values) + i % p.values) ≡ 16 * (renamed p (position ord) i / p.values) + renamed p
            (position ord) i % p.values
        renamed_image i h =
            let y : i / p.values < p.variables = R.var_lt p ord o w i h in
            let v : i % p.values < 16 = omega (arith, P.mod_small p w i, w.sixteen) in
            let d : (16 * (i / p.values) + i % p.values) / 16 ≡ i / p.values = omega arith in
            let r : (16 * (i / p.values) + i % p.values) % 16 ≡ i % p.values = omega arith in
            let s : at stands (i / p.values) ≡ position ord (i / p.values) = stands_is (i / p.values) y in
            let t : position ord (i / p.values) % 16 ≡ position ord (i / p.values) = omega (arith, R.stand_lt p ord o (i / p.values) y, w.few) in
            ap₂ (λ (a b : ℕ). 16 * (at stands a % 16) + b) d r
            ∙ ap₂ (λ (a b : ℕ). 16 * a + b) (ap (λ (z : ℕ). z % 16) s ∙ t ∙ sym (R.into_div p ord o w i)) (sym (R.into_mod p ord o w i))

        images_after : Images q images'
        images_after e x v h l k =
            let e' : e < length p.symmetries = omega (arith, symmetries_long) in
            let z : e < at numbers 67 = omega (arith, m.compiled.numbered.symmetries) in
            let v' : v < 16 = omega (arith, w.sixteen) in
            let j : 16 * x + v < 16 * at numbers 64 = omega (arith, variables_is) in
            let s : 192 * e + 16 * x + v ≡ 192 * e + (16 * x + v) = omega arith in
            let d : (16 * x + v) / 16 ≡ x = omega arith in
            let r : (16 * x + v) % 16 ≡ v = omega arith in
            let t : 192 * e + (16 * at order x + v) ≡ 192 * e + 16 * at order x + v = omega arith in
            ap (at images') s ∙ b.here e (16 * x + v) z j
            ∙ ap (λ (i : ℕ). renamed_to stands (at images i)) (ap₂ (λ (c u : ℕ). 192 * e + (16 * at order c + u)) d r ∙ t)
            ∙ ap (renamed_to stands) (m.compiled.imaged e (at order x) v e' (order_lt x l) k)
            ∙ renamed_image (at (symmetry_at p e) (pair p (at order x) v)) (R.image_lt p ord o w (symmetry_at p e) (g_good e e') (pair p (at order x) v) (P.pair_lt p (at order x) v (order_lt x l) k))
            ∙ ap (λ (i : ℕ). 16 * (i / p.values) + i % p.values) (sym (image_after e e' x v l k))

        pub moved : Moved p order numbers supports images numbers' supports' images'
        moved = record {
          compiled = record { numbered = numbers_after; supported = supports_after; imaged = images_after };
          kept = high;
          numbers_length = c.numbers_size ∙ a.size;
          supports_length = c.supports_size;
          images_length = b.size;
        }
