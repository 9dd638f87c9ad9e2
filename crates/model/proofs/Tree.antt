-- Plans: the live full prefixes are the solutions that obey every symmetry's list, and the tree meets each of them in reading order. Assumes nothing.
use Rattle.model.specs.Kit.{◌≡◌, refl, sym, ap, ap₂, ◌∙◌, subst, Bool, true, false, List, [], ◌∷◌, ◌++◌, map, Memᴰ, Memᴰ-head, Memᴰ-tail, Memᴰ-of_map, append-nil, ℕ, zero, suc}
use Rattle.model.specs.Kit.{◌+◌, ◌^◌, ◌≤◌, ◌<◌, not-suc-le-zero, arith, T, eqb, ltb, eqb→eq, eqb_refl, not_T, length, drop, length-append, ltb-true, ltb-false, eqb-true, ne_eqb}
use Rattle.model.specs.Search.{entries_at, nogoods_of, row_with, supported, pruned, narrowed, rounds_enough, sets_at, is_live, nodes_below, nodes, is_plan}
use Rattle.model.specs.Lists.{both, all, any, keep, flat, below, up_from, at, same}
use Rattle.model.specs.{ValueSets.has, ValueSets.members, ValueSets.any_empty, ValueSets.Inside, Problem.Problem, Problem.Constraint, Problem.assignments, Problem.values_at, Problem.satisfies}
use Rattle.model.specs.{Problem.is_solution, Nogood.Entry, Nogood.obeys, Inner.WellFormed.WellFormed, Inner.WellFormed.GoodConstraint, Inner.Pruning.Sets, Inner.Pruning.closed, Claims.Drawn}
use mathlib.Core.List.Memᴰ
use mathlib.Core.List.{map-map, map-id}
use lib.ListN.{drop_of_length-le}
use lib.Pow.{pow_mono}
use lib.Seq.{append_snoc}
use Rattle.model.proofs.Lists.{map_flat_map, drop_at, not_of, of_not, TExt, both_i, both_l, both_r, all_i, all_e, any_i, any_e, keep_no, keep_none, keep_ext, keep_flat_map, flat_pick, below_i}
use Rattle.model.proofs.Lists.{below_e, up_from_add, flat_append, map_append, map_ext, at_ext, at_out, at_append, at_seam, same_eq, same_refl}
use Rattle.model.proofs.Sets.{has_lt, has_none, has_at_lt, member, empty_i, empty_e}
use Rattle.model.proofs.Prune.{supported_e, Kept, pruned_i, pruned_sets, rounds_ind, narrowed_i, narrowed_e, Sized, Largest, largest, start_sets, fixed_e, sets_at_live, live_closed, value_live}
use Rattle.model.proofs.{Assignments.drawn_i, Assignments.drawn_e, Filter.filtered_i, Filter.filtered_e, Filter.obeys_front}

-- ---- the nogoods of a longer prefix begin with those of the shorter
same_entries : (p : Problem) (g a b : List ℕ) (j : ℕ) → j < length a → entries_at p g (a ++ b) j ≡ entries_at p g a j
unfolding entries_at
same_entries p g a b j h = let e = at_append a b j h in rw e

pub nogoods_append : (p : Problem) (g a b : List ℕ) → nogoods_of p g (a ++ b) ≡ nogoods_of p g a ++ flat (map (entries_at p g (a ++ b)) (up_from (length a) (length b)))
unfolding nogoods_of below
nogoods_append p g a b =
    let E = entries_at p g (a ++ b) in
    let later = up_from (length a) (length b) in
    let z : 0 + length a ≡ length a = omega arith in
    ap (λ (l : List ℕ). flat (map E l)) (ap (up_from 0) (length-append a b) ∙ up_from_add 0 (length a) (length b) ∙ ap (λ (n : ℕ). up_from 0 (length a) ++ up_from n (length b)) z)
    ∙ ap flat (map_append E (below (length a)) later)
    ∙ flat_append (map E (below (length a))) (map E later)
    ∙ ap (λ (l : List (List Entry)). flat l ++ flat (map E later)) (map_ext E (entries_at p g a) (below (length a)) (λ j m. same_entries p g a b j (below_e (length a) j m)))

-- ---- what every plan is: a solution that obeys the list of each symmetry
abbrev pub unbroken : Problem → List ℕ → Bool
unbroken p s = all (λ g. obeys s (nogoods_of p g s)) p.symmetries

abbrev pub plan_test : Problem → List ℕ → Bool
plan_test p s = both (is_solution p s) (unbroken p s)

pub record Solution (p : Problem) (s : List ℕ) : Type 0 where
  pub sized : length s ≡ p.variables
  pub drawn : (x : ℕ) → x < p.variables → T (has (at p.initial x) (at s x))
  pub satisfied : (c : Constraint) → Memᴰ c p.constraints → T (satisfies s c)

pub solution_e : (p : Problem) (s : List ℕ) → T (is_solution p s) → Solution p s
unfolding is_solution
solution_e p s t =
    let a = eqb (length s) p.variables in
    let b = all (λ x. has (at p.initial x) (at s x)) (below p.variables) in
    let c = all (satisfies s) p.constraints in
    let r = both_r a (both b c) t in
    record {
      sized = eqb→eq (length s) p.variables (both_l a (both b c) t);
      drawn = λ x l. all_e (λ y. has (at p.initial y) (at s y)) (below p.variables) (both_l b c r) x (below_i p.variables x l);
      satisfied = all_e (satisfies s) p.constraints (both_r b c r);
    }

pub solution_i : (p : Problem) (s : List ℕ) → Solution p s → T (is_solution p s)
unfolding is_solution
solution_i p s h =
    let a = eqb (length s) p.variables in
    let b = all (λ x. has (at p.initial x) (at s x)) (below p.variables) in
    let c = all (satisfies s) p.constraints in
    both_i a (both b c) (subst (λ (n : ℕ). T (eqb (length s) n)) h.sized (eqb_refl (length s)))
    (both_i b c (all_i (λ y. has (at p.initial y) (at s y)) (below p.variables) (λ x m. h.drawn x (below_e p.variables x m))) (all_i (satisfies s) p.constraints h.satisfied))

pub well_sized : (p : Problem) → WellFormed p → Sized p
well_sized p w = (w.sized, λ x. pick x (ltb x p.variables) refl)
  where
    pick : (x : ℕ) (b : Bool) → ltb x p.variables ≡ b → at p.initial x < 2 ^ 16
    pick x true e = let n = w.narrow x (ltb-true x p.variables e) in let q : 2 ^ p.values ≤ 2 ^ 16 = pow_mono w.sixteen in omega arith
    pick x false e = subst (λ (s : ℕ). s < 2 ^ 16) (sym (at_out p.initial x (subst (λ (n : ℕ). n ≤ x) (sym w.sized) (ltb-false x p.variables e)))) (omega arith)

-- ---- no round takes a value of a solution that obeys
row_own : (ds a : List ℕ) (x : ℕ) (ys : List ℕ) → ((y : ℕ) → Memᴰ y ys → T (has (at ds y) (at a y))) → T (row_with ds x (at a x) ys (values_at a ys))
unfolding row_with values_at
row_own ds a x [] h = tt
row_own ds a x (y ∷ ys) h =
    let q : Bool = elim (eqb x y) [ true ↦ eqb (at a x) (at a y) | false ↦ true ] in
    both_i (has (at ds y) (at a y)) (both q (row_with ds x (at a x) ys (values_at a ys))) (h y (Memᴰ-head refl))
    (both_i q (row_with ds x (at a x) ys (values_at a ys)) (go (eqb x y) refl) (row_own ds a x ys (λ z m. h z (Memᴰ-tail m))))
  where
    go : (b : Bool) → eqb x y ≡ b → T (elim b [ true ↦ eqb (at a x) (at a y) | false ↦ true ])
    go true e = subst (λ (z : ℕ). T (eqb (at a x) (at a z))) (eqb-true x y e) (eqb_refl (at a x))
    go false e = tt

supported_own : (ds a : List ℕ) (x : ℕ) (c : Constraint) → ((y : ℕ) → Memᴰ y c.scope → T (has (at ds y) (at a y))) → T (satisfies a c) → T (supported ds x (at a x) c)
unfolding supported satisfies
supported_own ds a x c h t = go (any (eqb x) c.scope)
  where
    go : (b : Bool) → T (elim b [ true ↦ any (row_with ds x (at a x) c.scope) c.rows | false ↦ true ])
    go true =
        let r = any_e (same (values_at a c.scope)) c.rows t in
        any_i (row_with ds x (at a x) c.scope) c.rows r.0 r.1 (subst (λ (l : List ℕ). T (row_with ds x (at a x) c.scope l)) (same_eq (values_at a c.scope) r.0 r.2)
        (row_own ds a x c.scope h))
    go false = tt

module _ (p : Problem) (w : WellFormed p) where
  -- s is a solution, and obeys the lists at a prefix
  pub pruned_drawn : (prefix s : List ℕ) → Solution p s → ((g : List ℕ) → Memᴰ g p.symmetries → T (obeys s (nogoods_of p g prefix))) → (ds : List ℕ) → Sets p.variables ds → Drawn ds s
      → Drawn (pruned p prefix ds) s
  pruned_drawn prefix s h o ds z d = (
    h.sized ∙ sym (pruned_sets p prefix ds).0,
    λ x l. let l' : x < p.variables = subst (λ (n : ℕ). x < n) (pruned_sets p prefix ds).0 l in
        let t : T (has (at ds x) (at s x)) = d.1 x (subst (λ (n : ℕ). x < n) (sym z.0) l') in
        pruned_i p prefix ds x (at s x) l' (has_lt 16 (at ds x) (at s x) (z.1 x) t)
        record {
          member = t;
          rows = λ c m. supported_own ds s x c (λ y i. d.1 y (subst (λ (n : ℕ). y < n) (sym z.0) ((w.constrained c m).inside y i))) (h.satisfied c m);
          filters = λ g m. filtered_i ds (nogoods_of p g prefix) x (at s x) s (subst (λ (n : ℕ). x < n) (sym z.0) l') (drawn_i ds s z.1 d) (o g m) refl;
        },
  )

  -- so it is drawn from the sets at each of its prefixes
  pub closed_drawn : (a b : List ℕ) → Solution p (a ++ b) → T (unbroken p (a ++ b)) → Drawn (closed p a) (a ++ b)
  closed_drawn a b h u =
      (rounds_ind p a (λ ds. Sets p.variables ds × Drawn ds (a ++ b)) (λ ds d. (pruned_sets p a ds, pruned_drawn a (a ++ b) h o ds d.0 d.1)) (rounds_enough p) (narrowed a p.initial)
      (start_sets p a z, start)).1
    where
      z : Sized p
      z = well_sized p w

      o : (g : List ℕ) → Memᴰ g p.symmetries → T (obeys (a ++ b) (nogoods_of p g a))
      o g m = obeys_front true (a ++ b) (nogoods_of p g a) _ (subst (λ (l : List Entry). T (obeys (a ++ b) l)) (nogoods_append p g a b)
          (all_e (λ k. obeys (a ++ b) (nogoods_of p k (a ++ b))) p.symmetries u g m))

      start : Drawn (narrowed a p.initial) (a ++ b)
      start = (
        h.sized ∙ sym (start_sets p a z).0,
        λ x l. let t = h.drawn x (subst (λ (n : ℕ). x < n) (start_sets p a z).0 l) in
            narrowed_i a p.initial x (at (a ++ b) x) (has_lt 16 (at p.initial x) (at (a ++ b) x) (z.1 x) t) t (λ k. at_append a b x k),
      )

  not_empty : (ds s : List ℕ) → Drawn ds s → any_empty ds ≡ false
  not_empty ds s d = not_of (any_empty ds) (λ t. let r = empty_e ds t in of_not (has 0 (at s r.0)) (has_none (at s r.0)) (subst (λ (m : ℕ). T (has m (at s r.0))) r.2 (d.1 r.0 r.1)))

  pub sets_at_drawn : (a b : List ℕ) → Solution p (a ++ b) → T (unbroken p (a ++ b)) → Drawn (sets_at p a) (a ++ b)
  sets_at_drawn a b h u = let d = closed_drawn a b h u in subst (λ (ds : List ℕ). Drawn ds (a ++ b)) (sym (sets_at_live p a (not_empty (closed p a) (a ++ b) d))) d

  -- ---- a full prefix
  only : (s ds : List ℕ) → Inside ds (narrowed s p.initial) → length s ≡ p.variables → length ds ≡ p.variables → (y u : ℕ) → T (has (at ds y) u) → u ≡ at s y
  only s ds i e l y u t = (narrowed_e s p.initial y u (i y u t)).1 (subst (λ (n : ℕ). y < n) (l ∙ sym e) (has_at_lt ds y u t))

  row_only : (ds s : List ℕ) → ((y u : ℕ) → T (has (at ds y) u) → u ≡ at s y) → (x v : ℕ) (ys ws : List ℕ) → T (row_with ds x v ys ws) → values_at s ys ≡ ws
  unfolding row_with values_at
  row_only ds s h x v [] [] t = refl
  row_only ds s h x v [] (u ∷ ws) t = absurd t
  row_only ds s h x v (y ∷ ys) [] t = absurd t
  row_only ds s h x v (y ∷ ys) (u ∷ ws) t =
      let q : Bool = elim (eqb x y) [ true ↦ eqb v u | false ↦ true ] in
      let b = both q (row_with ds x v ys ws) in
      ap₂ (λ (z : ℕ) (r : List ℕ). z ∷ r) (sym (h y u (both_l (has (at ds y) u) b t))) (row_only ds s h x v ys ws (both_r q (row_with ds x v ys ws) (both_r (has (at ds y) u) b t)))

  first : (x : ℕ) (c : Constraint) → GoodConstraint p c → (y : ℕ) × Memᴰ y c.scope
  first x c g = go c.scope g.some
    where
      go : (l : List ℕ) → 1 ≤ length l → (y : ℕ) × Memᴰ y l
      go [] h = absurd (not-suc-le-zero h)
      go (y ∷ l) h = (y, Memᴰ-head refl)

  pub plan_sound : (s : List ℕ) → length s ≡ p.variables → T (is_live p s) → T (plan_test p s)
  unfolding satisfies
  plan_sound s e t =
      both_i (is_solution p s) (unbroken p s)
      (solution_i p s record { sized = e; drawn = λ x l. (narrowed_e s p.initial x (at s x) (k.inside x (at s x) (own x l))).0; satisfied = rows })
      (all_i (λ g. obeys s (nogoods_of p g s)) p.symmetries obeyed)
    where
      k : Largest p s (closed p s)
      k = largest p s (well_sized p w)

      ds : List ℕ
      ds = closed p s

      lone : (y u : ℕ) → T (has (at ds y) u) → u ≡ at s y
      lone = only s ds k.inside e k.sets.0

      own : (x : ℕ) → x < p.variables → T (has (at ds x) (at s x))
      own x l =
          let m = member (at ds x) (k.sets.1 x) (λ q. of_not (any_empty ds) (live_closed p s t) (empty_i ds x (subst (λ (n : ℕ). x < n) (sym k.sets.0) l) q)) in
          subst (λ (u : ℕ). T (has (at ds x) u)) (lone x m.0 m.2) m.2

      kept : (x : ℕ) → x < p.variables → Kept p s ds x (at s x)
      kept x l = fixed_e p s ds k.fixed x (at s x) (own x l)

      rows : (c : Constraint) → Memᴰ c p.constraints → T (satisfies s c)
      rows c m =
          let g = w.constrained c m in
          let f = first 0 c g in
          let r = any_e (row_with ds f.0 (at s f.0) c.scope) c.rows (supported_e ds f.0 (at s f.0) c f.1 ((kept f.0 (g.inside f.0 f.1)).rows c m)) in
          any_i (same (values_at s c.scope)) c.rows r.0 r.1
          (subst (λ (l : List ℕ). T (same (values_at s c.scope) l)) (row_only ds s lone f.0 (at s f.0) c.scope r.0 r.2) (same_refl (values_at s c.scope)))

      obeyed : (g : List ℕ) → Memᴰ g p.symmetries → T (obeys s (nogoods_of p g s))
      obeyed g m =
          let r = filtered_e ds (nogoods_of p g s) 0 (at s 0) ((kept 0 w.some).filters g m) in
          let d = drawn_e ds r.0 r.1 in
          subst (λ (a : List ℕ). T (obeys a (nogoods_of p g s))) (at_ext r.0 s (d.0 ∙ k.sets.0 ∙ sym e) (λ x l. lone x (at r.0 x) (d.1 x (subst (λ (n : ℕ). x < n) d.0 l)))) r.2

  pub plan_complete : (s : List ℕ) → T (plan_test p s) → T (is_live p s)
  unfolding is_live
  plan_complete s t =
      let h = solution_e p s (both_l (is_solution p s) (unbroken p s) t) in
      let u = both_r (is_solution p s) (unbroken p s) t in
      let e = append-nil s in
      let d : Drawn (sets_at p s) s = subst (λ (a : List ℕ). Drawn (sets_at p s) a) e (sets_at_drawn s [] (subst (Solution p) (sym e) h) (subst (λ (a : List ℕ). T (unbroken p a)) (sym e) u)) in
      not_T (any_empty (sets_at p s)) (of_not (any_empty (sets_at p s)) (not_empty (sets_at p s) s d))

  -- a full prefix is a plan exactly if it is a solution that obeys the list of each symmetry
  pub plan_test_lem : (s : List ℕ) → length s ≡ p.variables → is_plan p s ≡ plan_test p s
  unfolding is_plan
  plan_test_lem s e =
      TExt (both (eqb (length s) p.variables) (is_live p s)) (plan_test p s)
      (λ t. plan_sound s e (both_r (eqb (length s) p.variables) (is_live p s) t))
      (λ t. both_i (eqb (length s) p.variables) (is_live p s) (subst (λ (n : ℕ). T (eqb (length s) n)) e (eqb_refl (length s))) (plan_complete s t))

  not_plan : (s : List ℕ) → (length s ≡ p.variables → ⊥) → is_plan p s ≡ false
  unfolding is_plan
  not_plan s h = ap (λ (b : Bool). both b (is_live p s)) (ne_eqb (length s) p.variables h)

  sets_at_inside : (prefix : List ℕ) → Inside (sets_at p prefix) p.initial
  sets_at_inside prefix x v t =
      (narrowed_e prefix p.initial x v ((largest p prefix (well_sized p w)).inside x v (subst (λ (l : List ℕ). T (has (at l x) v)) (sets_at_live p prefix (value_live p prefix x v t)) t))).0

  -- ---- the tree
  -- the nodes from a prefix on, itself the first
  tree : (k : ℕ) (prefix : List ℕ) → length prefix + k ≡ p.variables →
      keep (is_plan p) (prefix ∷ nodes_below p k prefix) ≡ keep (plan_test p) (map (λ (a : List ℕ). prefix ++ a) (assignments (drop (length prefix) p.initial)))
  unfolding nodes_below assignments members
  tree zero prefix e =
      keep_ext (is_plan p) (plan_test p) (prefix ∷ []) (λ s m. plan_test_lem s (ap length (Memᴰ.eq_of_singleton m) ∙ omega arith))
      ∙ ap (λ (a : List ℕ). keep (plan_test p) (a ∷ [])) (sym (append-nil prefix))
      ∙ ap (λ (l : List ℕ). keep (plan_test p) (map (λ (a : List ℕ). prefix ++ a) (assignments l))) (sym (drop_of_length-le p.initial {i = length prefix} (let q = w.sized in omega arith)))
  tree (suc k) prefix e =
      keep_no (is_plan p) prefix (flat (map F (members s'))) (not_plan prefix (λ q. omega arith))
      ∙ keep_flat_map (is_plan p) F (members s')
      ∙ flat_pick (has s') (has s) (λ v. keep (is_plan p) (F v)) G (below 16) (λ v m t. (sets_at_inside prefix j v t, below_one v (tree k (prefix ++ (v ∷ []))))) (λ v m n t. none_at v n)
      ∙ sym (keep_flat_map (plan_test p) (λ v. map (λ (a : List ℕ). prefix ++ a) (map (λ (a : List ℕ). v ∷ a) R)) (members s))
      ∙ ap (keep (plan_test p)) (sym (map_flat_map (λ (a : List ℕ). prefix ++ a) (λ v. map (λ (a : List ℕ). v ∷ a) R) (members s)))
      ∙ ap (λ (l : List ℕ). keep (plan_test p) (map (λ (a : List ℕ). prefix ++ a) (assignments l))) (sym split)
    where
      j : ℕ
      j = length prefix

      s' : ℕ
      s' = at (sets_at p prefix) j

      s : ℕ
      s = at p.initial j

      R : List (List ℕ)
      R = assignments (drop (suc j) p.initial)

      F : ℕ → List (List ℕ)
      F v = (prefix ++ (v ∷ [])) ∷ nodes_below p k (prefix ++ (v ∷ []))

      G : ℕ → List (List ℕ)
      G v = keep (plan_test p) (map (λ (a : List ℕ). prefix ++ a) (map (λ (a : List ℕ). v ∷ a) R))

      split : drop j p.initial ≡ s ∷ drop (suc j) p.initial
      split = drop_at p.initial j (let q = w.sized in omega arith)

      grown : (v : ℕ) → length (prefix ++ (v ∷ [])) ≡ suc j
      grown v = length-append prefix (v ∷ []) ∙ omega arith

      below_one : (v : ℕ) → (length (prefix ++ (v ∷ [])) + k ≡ p.variables →
          keep (is_plan p) (F v) ≡ keep (plan_test p) (map (λ (a : List ℕ). prefix ++ (v ∷ []) ++ a) (assignments (drop (length (prefix ++ (v ∷ []))) p.initial)))) → keep (is_plan p) (F v) ≡ G v
      below_one v ih =
          ih (let q = grown v in omega arith)
          ∙ ap (λ (n : ℕ). keep (plan_test p) (map (λ (a : List ℕ). prefix ++ (v ∷ []) ++ a) (assignments (drop n p.initial)))) (grown v)
          ∙ ap (keep (plan_test p)) (map_ext (λ (a : List ℕ). prefix ++ (v ∷ []) ++ a) (λ (a : List ℕ). prefix ++ (v ∷ a)) R (λ a m. append_snoc prefix v a) ∙ sym
          (map-map (λ (a : List ℕ). prefix ++ a) (λ (a : List ℕ). v ∷ a) R))

      none_at : (v : ℕ) → (T (has s' v) → ⊥) → G v ≡ []
      none_at v n =
          keep_none (plan_test p) (map (λ (a : List ℕ). prefix ++ a) (map (λ (a : List ℕ). v ∷ a) R))
          (λ t m q.
          let r = Memᴰ-of_map (λ (a : List ℕ). prefix ++ a) (map (λ (a : List ℕ). v ∷ a) R) m in
          let r' = Memᴰ-of_map (λ (a : List ℕ). v ∷ a) R r.1 in
          let f : prefix ++ (v ∷ r'.0) ≡ t = ap (λ (a : List ℕ). prefix ++ a) r'.2 ∙ r.2 in
          let q' : T (plan_test p (prefix ++ (v ∷ r'.0))) = subst (λ (a : List ℕ). T (plan_test p a)) (sym f) q in
          let u = prefix ++ (v ∷ r'.0) in
          let d = sets_at_drawn prefix (v ∷ r'.0) (solution_e p u (both_l (is_solution p u) (unbroken p u) q')) (both_r (is_solution p u) (unbroken p u) q') in
          n (subst (λ (z : ℕ). T (has s' z)) (at_seam prefix v r'.0) (d.1 j (let i = d.0 in let i' = length-append prefix (v ∷ r'.0) in omega arith))))

  -- the plans of the tree, in its order, are the solutions that obey, in reading order
  pub plans_of_tree : keep (is_plan p) (nodes p) ≡ keep (plan_test p) (assignments p.initial)
  unfolding nodes
  plans_of_tree =
      sym (keep_no (is_plan p) [] (nodes_below p p.variables []) (not_plan [] (λ q. let o = w.some in omega arith)))
      ∙ tree p.variables [] (omega arith)
      ∙ ap (keep (plan_test p)) (map-id (assignments p.initial))
