-- The sets at a prefix of the reordered problem, written by place number, are the largest in paper 01's words (model's Largest). Assumes nothing.
use Rattle.model.specs.Kit.{◌≡◌, refl, sym, ap, ap₂, ◌∙◌, subst, subst₂, Bool, true, false, not, ⊎_elim, List, [], ◌∷◌, ◌++◌, map, Memᴰ, Memᴰ-head, Memᴰ-tail, Memᴰ-not_nil}
use Rattle.model.specs.Kit.{Memᴰ-cases_cons, Memᴰ-map, Memᴰ-of_map, ℕ, ◌/◌, ◌%◌, ◌^◌, ◌≤◌, ◌<◌, arith, T, T_not, ltb, eqb, eqb→eq, length, replicate, length-replicate, ltb-true, ltb-false}
use Rattle.model.specs.Kit.{eq-eqb}
use Rattle.model.specs.{Lists.both, Lists.any, Lists.keep, Lists.flat, Lists.below, Lists.at, ValueSets.has, ValueSets.members, ValueSets.any_empty, Problem.Problem, Problem.Constraint, Problem.pair}
use Rattle.model.specs.{Problem.assignments, Nogood.Entry, Nogood.equality, Nogood.disequality, Nogood.is, Nogood.obeys_from, Nogood.obeys, Nogood.filtered, Search.entries_of, Search.row_with}
use Rattle.model.specs.{Search.sets_at, Search.is_live, Claims.nogoods_in, Claims.Consistent, Claims.Largest, Inner.WellFormed.WellFormed, Inner.WellFormed.GoodConstraint}
use Rattle.model.specs.{Inner.WellFormed.GoodSymmetry}
use mathlib.Core.List.Memᴰ
use Rattle.model.specs.Inner.Pruning.{Sets}
use Rattle.order.specs.Reordered.{position, read, write, value_of, scope_in, row_in, constraint_in, renamed, symmetry_in, reordered}
use Rattle.order.specs.{Order.Ordering, RunBy.sets_by, RunBy.is_live_by}
use Rattle.model.proofs.{Lists.both_i, Lists.both_l, Lists.both_r, Lists.T_of, Lists.stable, Lists.not_of, Lists.of_not, Lists.any_i, Lists.any_e, Lists.keep_e, Lists.flat_e, Lists.map_append}
use Rattle.model.proofs.{Lists.map_ext, Lists.map_flat_map, Lists.below_e, Lists.at_ext, Lists.at_out, Lists.get_d_at, Lists.at_replicate, Lists.ascending_sorted, Lists.map_map, Sets.inside_antisym}
use Rattle.model.proofs.{Sets.has_at_lt, Sets.member, Sets.empty_i, Sets.empty_e, Sets.members_e, Assignments.assign_i, Assignments.assign_e, Filter.length_filtered, Filter.filtered_sets}
use Rattle.model.proofs.{Filter.filtered_i, Filter.filtered_e, Prune.Sized, Consistent.live_consistent, Consistent.consistent_inside, Consistent.dead_none, Consistent.dead_empty, Tree.well_sized}
use Rattle.order.proofs.Reordered.{row_values, sorted_apart}
use Rattle.model.proofs.Pairs as P
use Rattle.order.proofs.Reordered as O

-- ---- a row inside the sets, by the values of its variables
module _ (ds : List ℕ) (x v : ℕ) (f : ℕ → ℕ) where
  abbrev Fits : ℕ → Type 0
  Fits y = T (has (at ds y) (f y)) × (x ≡ y → v ≡ f y)

  guard_i : (b c : Bool) → (T b → T c) → T (elim b [ true ↦ c | false ↦ true ])
  guard_i true c h = h tt
  guard_i false c h = tt

  guard_e : (b c : Bool) → T (elim b [ true ↦ c | false ↦ true ]) → T b → T c
  guard_e true c h t = h
  guard_e false c h t = absurd t

  row_with_i : (xs : List ℕ) → ((y : ℕ) → Memᴰ y xs → Fits y) → T (row_with ds x v xs (map f xs))
  unfolding row_with
  row_with_i [] h = tt
  row_with_i (y ∷ xs) h =
      let q = h y (Memᴰ-head refl) in
      both_i (has (at ds y) (f y)) (both (elim (eqb x y) [ true ↦ eqb v (f y) | false ↦ true ]) (row_with ds x v xs (map f xs))) q.0
      (both_i (elim (eqb x y) [ true ↦ eqb v (f y) | false ↦ true ]) (row_with ds x v xs (map f xs))
      (guard_i (eqb x y) (eqb v (f y)) (λ t. T_of (eqb v (f y)) (eq-eqb v (f y) (q.1 (eqb→eq x y t)))))
      (row_with_i xs (λ z m. h z (Memᴰ-tail m))))

  row_with_e : (xs : List ℕ) → T (row_with ds x v xs (map f xs)) → (y : ℕ) → Memᴰ y xs → Fits y
  unfolding row_with
  row_with_e [] t y m = absurd (Memᴰ-not_nil m)
  row_with_e (z ∷ xs) t y m =
      let c : Bool = elim (eqb x z) [ true ↦ eqb v (f z) | false ↦ true ] in
      let r = both_r (has (at ds z) (f z)) (both c (row_with ds x v xs (map f xs))) t in
      ⊎_elim {C = Fits y}
      (λ e. subst Fits (sym e) (
        both_l (has (at ds z) (f z)) (both c (row_with ds x v xs (map f xs))) t,
        λ q. eqb→eq v (f z)
            (guard_e (eqb x z) (eqb v (f z)) (both_l c (row_with ds x v xs (map f xs)) r) (T_of (eqb x z) (eq-eqb x z q))),
      ))
      (row_with_e xs (both_r c (row_with ds x v xs (map f xs)) r) y) (Memᴰ-cases_cons m)

-- ---- entries with their variables renamed
ren : (ℕ → ℕ) → Entry → Entry
ren f (equality x v) = equality (f x) v
ren f (disequality x v) = disequality (f x) v

var_of : Entry → ℕ
var_of (equality x v) = x
var_of (disequality x v) = x

module _ (p : Problem) (order : List ℕ) (o : Ordering p.variables order) (w : WellFormed p) where
  abbrev n : ℕ
  n = p.variables

  abbrev d : ℕ
  d = p.values

  abbrev p2 : Problem
  p2 = reordered order p

  abbrev place : ℕ → ℕ
  place i = at order i

  abbrev stand : ℕ → ℕ
  stand x = position order x

  is_read : (a : List ℕ) → length a ≡ n → (x v : ℕ) → x < n → is (read order a) (stand x) v ≡ is a x v
  is_read a e x v h =
      let l = O.stand_lt p order o x h in
      ap (λ (z : ℕ). eqb z v)
      (get_d_at (read order a) (stand x) 16 (omega (arith, O.read_length p order o a)) ∙ O.read_at p order o a (stand x) l ∙ ap (at a) (O.place_stand p order o x h) ∙ sym
      (get_d_at a x 16 (omega arith)))

  obeys_read : (a : List ℕ) → length a ≡ n → (es : List Entry) → ((e : Entry) → Memᴰ e es → var_of e < n) → (held : Bool) → obeys_from held (read order a) (map (ren stand) es) ≡ obeys_from held a es
  unfolding obeys_from ren var_of
  obeys_read a l [] h held = refl
  obeys_read a l (equality x v ∷ es) h held =
      obeys_read a l es (λ e m. h e (Memᴰ-tail m)) (both held (is (read order a) (stand x) v)) ∙ ap (λ (b : Bool). obeys_from (both held b) a es)
      (is_read a l x v (h (equality x v) (Memᴰ-head refl)))
  obeys_read a l (disequality x v ∷ es) h held =
      ap₂ both (ap (λ (b : Bool). not (both held b)) (is_read a l x v (h (disequality x v) (Memᴰ-head refl)))) (obeys_read a l es (λ e m. h e (Memᴰ-tail m)) held)

  -- ---- the filter
  read_sets : (ds : List ℕ) → ((x : ℕ) → at ds x < 2 ^ 16) → Sets n (read order ds)
  read_sets ds s = (O.read_length p order o ds, λ i. go i (ltb i n) refl)
    where
      go : (i : ℕ) (b : Bool) → ltb i n ≡ b → at (read order ds) i < 2 ^ 16
      go i true e = subst (λ (z : ℕ). z < 2 ^ 16) (sym (O.read_at p order o ds i (ltb-true i n e))) (s (place i))
      go i false e = subst (λ (z : ℕ). z < 2 ^ 16) (sym (at_out (read order ds) i (subst (λ (m : ℕ). m ≤ i) (sym (O.read_length p order o ds)) (ltb-false i n e)))) (omega arith)

  read_has : (ds : List ℕ) (i v : ℕ) → T (has (at (read order ds) i) v) → (i < n) × T (has (at ds (place i)) v)
  read_has ds i v t =
      let l : i < n = subst (λ (m : ℕ). i < m) (O.read_length p order o ds) (has_at_lt (read order ds) i v t) in
      (l, subst (λ (s : ℕ). T (has s v)) (O.read_at p order o ds i l) t)

  has_read : (ds : List ℕ) (i v : ℕ) → i < n → T (has (at ds (place i)) v) → T (has (at (read order ds) i) v)
  has_read ds i v l t = subst (λ (s : ℕ). T (has s v)) (sym (O.read_at p order o ds i l)) t

  read_drawn : (ds a : List ℕ) → Memᴰ a (assignments ds) → length ds ≡ n → Memᴰ (read order a) (assignments (read order ds))
  read_drawn ds a m e =
      let r = assign_e ds a m in
      assign_i (read order ds) (read order a) (O.read_length p order o a ∙ sym (O.read_length p order o ds))
      (λ i l. let h : i < n = omega (arith, O.read_length p order o ds) in
      subst₂ (λ (v s : ℕ). Memᴰ v (members s)) (sym (O.read_at p order o a i h)) (sym (O.read_at p order o ds i h)) (r.1 (place i) (omega (arith, O.place_lt p order o i h))))

  write_drawn : (ds a : List ℕ) → Memᴰ a (assignments (read order ds)) → length ds ≡ n → Memᴰ (write order a) (assignments ds)
  write_drawn ds a m e =
      let r = assign_e (read order ds) a m in
      assign_i ds (write order a) (O.write_length p order o a ∙ sym e)
      (λ x l. let h : x < n = omega arith in
      let k = O.stand_lt p order o x h in
      subst₂ (λ (v s : ℕ). Memᴰ v (members s)) (sym (O.write_at p order o a x h)) (O.read_at p order o ds (stand x) k ∙ ap (at ds) (O.place_stand p order o x h))
      (r.1 (stand x) (omega (arith, O.read_length p order o ds))))

  filtered_read : (ds : List ℕ) → length ds ≡ n → (es : List Entry) → ((e : Entry) → Memᴰ e es → var_of e < n) → filtered (read order ds) (map (ren stand) es) ≡ read order (filtered ds es)
  filtered_read ds e es h =
      inside_antisym n (filtered (read order ds) (map (ren stand) es)) (read order (filtered ds es))
      (subst (λ (m : ℕ). Sets m (filtered (read order ds) (map (ren stand) es))) (O.read_length p order o ds) (filtered_sets (read order ds) (map (ren stand) es)))
      (read_sets (filtered ds es) (filtered_sets ds es).1)
      (λ i v t.
      let r = filtered_e (read order ds) (map (ren stand) es) i v t in
      let a = write order r.0 in
      let la : length r.0 ≡ n = (assign_e (read order ds) r.0 r.1).0 ∙ O.read_length p order o ds in
      let l : i < n = subst (λ (m : ℕ). i < m) (length_filtered (read order ds) (map (ren stand) es) ∙ O.read_length p order o ds) (has_at_lt (filtered (read order ds) (map (ren stand) es)) i v t) in
      let k = O.place_lt p order o i l in
      has_read (filtered ds es) i v l
      (filtered_i ds es (place i) v a (omega arith) (write_drawn ds r.0 r.1 e)
      (subst T (obeys_read a (O.write_length p order o r.0) es h true) (subst (λ (z : List ℕ). T (obeys z (map (ren stand) es))) (sym (O.read_write p order o r.0 la)) r.2))
      (O.write_at p order o r.0 (place i) k ∙ ap (at r.0) (O.stand_place p order o i l) ∙ r.3)))
      (λ i v t.
      let q = read_has (filtered ds es) i v t in
      let r = filtered_e ds es (place i) v q.1 in
      filtered_i (read order ds) (map (ren stand) es) i v (read order r.0) (omega (arith, q.0, O.read_length p order o ds)) (read_drawn ds r.0 r.1 e)
      (subst T (sym (obeys_read r.0 ((assign_e ds r.0 r.1).0 ∙ e) es h true)) r.2) (O.read_at p order o r.0 i q.0 ∙ r.3))

  -- ---- the nogoods of a symmetry at a prefix of values below d
  module _ (prefix : List ℕ) (short : length prefix ≤ n) (small : (j : ℕ) → j < length prefix → at prefix j < d) where
    module _ (g : List ℕ) (good : GoodSymmetry p g) where
      abbrev image : ℕ → ℕ → ℕ
      image j v = at g (pair p (at order j) v)

      image_2 : (j v : ℕ) → j < n → v < d → at (symmetry_in order p g) (pair p2 j v) ≡ renamed p (position order) (image j v)
      image_2 j v h l =
          ap (at (symmetry_in order p g)) (O.pair_same p order o w j v) ∙ O.table_at_lem p order o w g good (pair p j v) (P.pair_lt p j v h l)
          ∙ ap (λ (q : ℕ). renamed p (position order) (at g q)) (O.from_pair p order o w j v l)

      image_div : (j v : ℕ) → j < n → v < d → at (symmetry_in order p g) (pair p2 j v) / d ≡ stand (image j v / d)
      image_div j v h l = ap (λ (q : ℕ). q / d) (image_2 j v h l) ∙ O.into_div p order o w (image j v)

      image_mod : (j v : ℕ) → j < n → v < d → at (symmetry_in order p g) (pair p2 j v) % d ≡ image j v % d
      image_mod j v h l = ap (λ (q : ℕ). q % d) (image_2 j v h l) ∙ O.into_mod p order o w (image j v)

      image_var : (j v : ℕ) → j < n → v < d → image j v / d < n
      image_var j v h l = O.var_lt p order o w (image j v) (O.image_lt p order o w g good (pair p (place j) v) (P.pair_lt p (place j) v (O.place_lt p order o j h) l))

      entries_same : (j : ℕ) → j < length prefix → entries_of p2 (symmetry_in order p g) j (at prefix j) ≡ map (ren stand) (entries_of p g (at order j) (at prefix j))
      unfolding ren
      entries_same j h =
          let l : j < n = omega arith in
          let D2 : ℕ → Entry = λ v. disequality (at (symmetry_in order p g) (pair p2 j v) / d) (at (symmetry_in order p g) (pair p2 j v) % d) in
          let D : ℕ → Entry = λ v. disequality (image j v / d) (image j v % d) in
          let S = keep (λ v. ltb v (at prefix j)) (members (at p.initial (place j))) in
          let u = at prefix j in
          ap₂ {C = List Entry} (λ a b. a ++ b)
          (ap (λ (s : ℕ). map D2 (keep (λ v. ltb v (at prefix j)) (members s))) (O.set_at p order o w j l)
          ∙ map_ext D2 (λ v. ren stand (D v)) S
          (λ v m. let t = members_e (at p.initial (place j)) v (keep_e (λ v. ltb v (at prefix j)) (members (at p.initial (place j))) v m).0 in
          let b : v < d = P.init_lt p w.narrow (place j) v (O.place_lt p order o j l) t.1 in
          ap₂ disequality (image_div j v l b) (image_mod j v l b))
          ∙ sym (map_map (ren stand) D S))
          (ap₂ {C = List Entry} (λ a b. equality a b ∷ []) (image_div j u l (small j h)) (image_mod j u l (small j h)))
          ∙ sym (map_append (ren stand) (map D S) (equality (image j u / d) (image j u % d) ∷ []))

      nogoods_same : nogoods_in (λ x. x) p2 (symmetry_in order p g) prefix ≡ map (ren stand) (nogoods_in (at order) p g prefix)
      nogoods_same =
          ap flat (map_ext (λ j. entries_of p2 (symmetry_in order p g) j (at prefix j)) (λ j. map (ren stand) (entries_of p g (at order j) (at prefix j))) (below (length prefix))
          (λ j m. entries_same j (below_e (length prefix) j m)))
          ∙ sym (map_flat_map (ren stand) (λ j. entries_of p g (at order j) (at prefix j)) (below (length prefix)))

      entry_small : (j : ℕ) → j < length prefix → (e : Entry) → Memᴰ e (entries_of p g (at order j) (at prefix j)) → var_of e < n
      unfolding var_of
      entry_small j h e m =
          let l : j < n = omega arith in
          let D : ℕ → Entry = λ v. disequality (image j v / d) (image j v % d) in
          let S = keep (λ v. ltb v (at prefix j)) (members (at p.initial (place j))) in
          ⊎_elim {C = var_of e < n}
          (λ k. let r = Memᴰ-of_map D S k in
          let t = members_e (at p.initial (place j)) r.0 (keep_e (λ v. ltb v (at prefix j)) (members (at p.initial (place j))) r.0 r.1).0 in
          subst (λ (z : Entry). var_of z < n) r.2 (image_var j r.0 l (P.init_lt p w.narrow (place j) r.0 (O.place_lt p order o j l) t.1)))
          (λ k. subst (λ (z : Entry). var_of z < n) (sym (Memᴰ.eq_of_singleton k)) (image_var j (at prefix j) l (small j h)))
          (Memᴰ.append_cases (map D S) m)

      nogoods_small : (e : Entry) → Memᴰ e (nogoods_in (at order) p g prefix) → var_of e < n
      nogoods_small e m =
          let r = flat_e (map (λ j. entries_of p g (at order j) (at prefix j)) (below (length prefix))) e m in
          let q = Memᴰ-of_map (λ j. entries_of p g (at order j) (at prefix j)) (below (length prefix)) r.1 in
          entry_small q.0 (below_e (length prefix) q.0 q.1) e (subst (Memᴰ e) (sym q.2) r.2)

      filter_same : (ds : List ℕ) → length ds ≡ n → filtered (read order ds) (nogoods_in (λ x. x) p2 (symmetry_in order p g) prefix) ≡ read order (filtered ds (nogoods_in (at order) p g prefix))
      filter_same ds e = ap (filtered (read order ds)) nogoods_same ∙ filtered_read ds e (nogoods_in (at order) p g prefix) nogoods_small

    -- ---- rows inside the sets
    module _ (c : Constraint) (m : Memᴰ c p.constraints) (ds : List ℕ) where
      good : GoodConstraint p c
      good = w.constrained c m

      abbrev xs : List ℕ
      xs = c.scope

      abbrev ys : List ℕ
      ys = scope_in order c.scope

      row_is : (r : List ℕ) → Memᴰ r c.rows → map (value_of c.scope r) c.scope ≡ r
      row_is r k = row_values xs r (sorted_apart xs (ascending_sorted xs good.ordered)) (good.sized r k)

      rows_into : (i v : ℕ) → i < n → T (any (row_with ds (place i) v c.scope) c.rows) → T (any (row_with (read order ds) i v (scope_in order c.scope)) (map (row_in order c.scope) c.rows))
      unfolding row_in
      rows_into i v l t =
          let r = any_e (row_with ds (place i) v xs) c.rows t in
          let f = row_with_e ds (place i) v (value_of xs r.0) xs (subst (λ (z : List ℕ). T (row_with ds (place i) v xs z)) (sym (row_is r.0 r.1)) r.2) in
          any_i (row_with (read order ds) i v ys) (map (row_in order xs) c.rows) (row_in order xs r.0) (Memᴰ-map (row_in order xs) r.1)
          (row_with_i (read order ds) i v (λ k. value_of xs r.0 (place k)) ys
          (λ k j. let s = O.scope_e p order o xs good.inside good.ordered k j in
          let q = f (place k) s.1 in
          (has_read ds k (value_of xs r.0 (place k)) s.0 q.0, λ e. q.1 (ap place e))))

      rows_from : (x v : ℕ) → x < n → T (any (row_with (read order ds) (stand x) v (scope_in order c.scope)) (map (row_in order c.scope) c.rows)) → T (any (row_with ds x v c.scope) c.rows)
      unfolding row_in
      rows_from x v l t =
          let r = any_e (row_with (read order ds) (stand x) v ys) (map (row_in order xs) c.rows) t in
          let k = Memᴰ-of_map (row_in order xs) c.rows r.1 in
          let f = row_with_e (read order ds) (stand x) v (λ i. value_of xs k.0 (place i)) ys (subst (λ (z : List ℕ). T (row_with (read order ds) (stand x) v ys z)) (sym k.2) r.2) in
          any_i (row_with ds x v xs) c.rows k.0 k.1
          (subst (λ (z : List ℕ). T (row_with ds x v xs z)) (row_is k.0 k.1)
          (row_with_i ds x v (value_of xs k.0) xs
          (λ y j. let ly = good.inside y j in
          let q = f (stand y) (O.stand_in p order o xs good.inside good.ordered y j) in
          let e = O.place_stand p order o y ly in
          (subst (λ (z : ℕ). T (has (at ds z) (value_of xs k.0 z))) e (read_has ds (stand y) (value_of xs k.0 (place (stand y))) q.0).1, λ z. q.1 (ap stand z) ∙ ap (value_of xs k.0) e))))

    -- ---- consistent in the order exactly if consistent in the reordered problem
    pub consistent_read : (ds : List ℕ) → Consistent (at order) p prefix ds → Consistent (λ x. x) (reordered order p) prefix (read order ds)
    consistent_read ds c = record {
      sized = O.read_length p order o ds;
      sixteen = (read_sets ds c.sixteen).1;
      inside = λ i v t. let r = read_has ds i v t in has_read p.initial i v r.0 (c.inside (place i) v r.1);
      given = λ i v l t. c.given i v l (read_has ds i v t).1;
      rows = λ z k i v j t.
          let q = Memᴰ-of_map (constraint_in order) p.constraints k in
          let g = w.constrained q.0 q.1 in
          subst (λ (y : Constraint). T (any (row_with (read order ds) i v y.scope) y.rows)) q.2
          (let s = O.scope_e p order o q.0.scope g.inside g.ordered i (subst (λ (y : Constraint). Memᴰ i y.scope) (sym q.2) j) in
          rows_into q.0 q.1 ds i v s.0 (c.rows q.0 q.1 (place i) v s.1 (read_has ds i v t).1));
      filters = λ h k. let q = Memᴰ-of_map (symmetry_in order p) p.symmetries k in
          subst (λ (y : List ℕ). filtered (read order ds) (nogoods_in (λ x. x) p2 y prefix) ≡ read order ds) q.2
          (filter_same q.0 (w.symmetric q.0 q.1) ds c.sized ∙ ap (read order) (c.filters q.0 q.1));
    }

    pub consistent_write : (ds : List ℕ) → length ds ≡ n → ((x : ℕ) → at ds x < 2 ^ 16) → Consistent (λ x. x) (reordered order p) prefix (read order ds) → Consistent (at order) p prefix ds
    consistent_write ds e s c = record {
      sized = e;
      sixteen = s;
      inside = λ x v t. let l = lt x v t in let q = at_stand x l in
          subst (λ (z : ℕ). T (has (at p.initial z) v)) q (read_has p.initial (stand x) v (c.inside (stand x) v (there x v t))).1;
      given = λ i v l t. c.given i v l (has_read ds i v (omega arith) t);
      rows = λ z k x v j t. rows_from z k ds x v (lt x v t)
          (c.rows (constraint_in order z) (Memᴰ-map (constraint_in order) k) (stand x) v (O.stand_in p order o z.scope (w.constrained z k).inside (w.constrained z k).ordered x j) (there x v t));
      filters = λ g k. O.read_inj p order o (filtered ds (nogoods_in (at order) p g prefix)) ds (length_filtered ds (nogoods_in (at order) p g prefix) ∙ e) e
          (sym (filter_same g (w.symmetric g k) ds e) ∙ c.filters (symmetry_in order p g) (Memᴰ-map (symmetry_in order p) k));
    }
      where
        lt : (x v : ℕ) → T (has (at ds x) v) → x < p.variables
        lt x v t = subst (λ (m : ℕ). x < m) e (has_at_lt ds x v t)

        at_stand : (x : ℕ) → x < p.variables → at order (position order x) ≡ x
        at_stand x l = O.place_stand p order o x l

        there : (x v : ℕ) → T (has (at ds x) v) → T (has (at (read order ds) (position order x)) v)
        there x v t = has_read ds (stand x) v (O.stand_lt p order o x (lt x v t)) (subst (λ (z : ℕ). T (has (at ds z) v)) (sym (at_stand x (lt x v t))) t)

  -- ---- sets of which none is empty fix values of the initial sets
  small_read : (prefix es : List ℕ) → length prefix ≤ n → Consistent (λ x. x) p2 prefix es → any_empty es ≡ false → (j : ℕ) → j < length prefix → at prefix j < d
  small_read prefix es short c some j h =
      let l : j < n = omega arith in
      let r = member (at es j) (c.sixteen j) (λ e. of_not (any_empty es) some (empty_i es j (omega (arith, c.sized)) e)) in
      let v = r.0 in
      subst (λ (z : ℕ). z < d) (c.given j v h r.2) (P.init_lt p w.narrow (place j) v (O.place_lt p order o j l) (read_has p.initial j v (c.inside j v r.2)).1)

  small_by : (prefix es : List ℕ) → length prefix ≤ n → Consistent (at order) p prefix es → any_empty es ≡ false → (j : ℕ) → j < length prefix → at prefix j < d
  small_by prefix es short c some j h =
      let l : j < n = omega arith in
      let k = O.place_lt p order o j l in
      let r = member (at es (place j)) (c.sixteen (place j)) (λ e. of_not (any_empty es) some (empty_i es (place j) (omega (arith, c.sized)) e)) in
      let v = r.0 in
      subst (λ (z : ℕ). z < d) (c.given j v h r.2) (P.init_lt p w.narrow (place j) v k (c.inside (place j) v r.2))

  some_read : (es : List ℕ) → length es ≡ n → any_empty es ≡ false → any_empty (read order es) ≡ false
  some_read es e some =
      not_of (any_empty (read order es)) (λ t. let r = empty_e (read order es) t in
      let l : r.0 < n = omega (arith, r.1, O.read_length p order o es) in
      of_not (any_empty es) some (empty_i es (place r.0) (omega (arith, O.place_lt p order o r.0 l)) (sym (O.read_at p order o es r.0 l) ∙ r.2)))

  -- the sets at a prefix are the largest
  pub largest_by : (prefix : List ℕ) → length prefix ≤ p.variables → Largest (at order) p prefix (is_live_by order p prefix) (sets_by order p prefix)
  unfolding is_live
  largest_by prefix short = (
    λ t. let c = live_consistent p2 prefix s t in
        let some = not_of (any_empty (sets_at p2 prefix)) (T_not (any_empty (sets_at p2 prefix)) t) in
        let small = small_read prefix (sets_at p2 prefix) short c some in (
          consistent_write prefix short small (write order (sets_at p2 prefix)) (O.write_length p order o (sets_at p2 prefix)) (written_small (sets_at p2 prefix) c.sixteen)
              (subst (Consistent (λ x. x) p2 prefix) (sym (O.read_write p order o (sets_at p2 prefix) c.sized)) c),
          λ es k x v q. let l : x < n = subst (λ (m : ℕ). x < m) k.sized (has_at_lt es x v q) in
              subst (λ (z : ℕ). T (has z v)) (sym (O.write_at p order o (sets_at p2 prefix) x l))
              (consistent_inside p2 prefix s t (read order es) (consistent_read prefix short small es k) (stand x) v
              (has_read es (stand x) v (O.stand_lt p order o x l) (subst (λ (z : ℕ). T (has (at es z) v)) (sym (O.place_stand p order o x l)) q))),
        ),
    λ e. let q = dead_none p2 prefix s e in (
      at_ext (write order (sets_at p2 prefix)) (replicate n 0) (O.write_length p order o (sets_at p2 prefix) ∙ sym (length-replicate n 0))
          (λ x h. let l : x < n = omega (arith, O.write_length p order o (sets_at p2 prefix)) in
          O.write_at p order o (sets_at p2 prefix) x l ∙ ap (λ (r : List ℕ). at r (stand x)) q ∙ at_replicate n (stand x) ∙ sym (at_replicate n x)),
      λ es c. stable (any_empty es) (λ full. let some = not_of (any_empty es) full in
          of_not (any_empty (read order es)) (some_read es c.sized some) (dead_empty p2 prefix s e (read order es) (consistent_read prefix short (small_by prefix es short c some) es c))),
    ),
  )
    where
      s : Sized (reordered order p)
      s = well_sized (reordered order p) (O.well_reordered p order o w)

      written_small : (ds : List ℕ) → ((x : ℕ) → at ds x < 2 ^ 16) → (x : ℕ) → at (write order ds) x < 2 ^ 16
      written_small ds b x = go (ltb x p.variables) refl
        where
          go : (c : Bool) → ltb x p.variables ≡ c → at (write order ds) x < 2 ^ 16
          go true e = subst (λ (z : ℕ). z < 2 ^ 16) (sym (O.write_at p order o ds x (ltb-true x p.variables e))) (b (position order x))
          go false e = subst (λ (z : ℕ). z < 2 ^ 16) (sym (at_out (write order ds) x (subst (λ (m : ℕ). m ≤ x) (sym (O.write_length p order o ds)) (ltb-false x p.variables e)))) (omega arith)
