-- One round of pruning: what it keeps; rounds end in the largest sets that a round leaves as they are. Assumes nothing.
use Rattle.model.specs.Kit.{◌≡◌, refl, sym, ap, ◌∙◌, subst, Bool, true, false, not, List, [], ◌∷◌, map, Memᴰ, Memᴰ-map, Memᴰ-of_map, Memᴰ-cast, ℕ, zero, suc, ◌*◌, ◌^◌, ◌≤◌, ◌<◌}
use Rattle.model.specs.Kit.{not-suc-le-zero, le_of_suc-le-suc, arith, T, eqb, ltb, eqb→eq, eqb_refl, T_not, length, replicate, ltb-true, ltb-false}
use Rattle.model.specs.Search.{nogoods_of, row_with, supported, left_by, kept_by, pruned, narrowed, rounds, rounds_enough, sets_at, is_live}
use Rattle.model.specs.{Lists.both, Lists.all, Lists.any, Lists.at, Lists.same, ValueSets.has, ValueSets.mask_of, ValueSets.any_empty, ValueSets.Inside, Problem.Problem, Problem.Constraint}
use Rattle.model.specs.{Nogood.filtered, Inner.Pruning.Sets, Inner.Pruning.closed, Inner.Pruning.Way}
use Rattle.model.proofs.Lists.{T_of, of_T, not_of, of_not, both_i, both_l, both_r, all_i, all_e, any_i, any_e, at_tabulate, length_tabulate, at_out, same_eq, same_refl}
use Rattle.model.proofs.Sets.{has_lt, has_none, mask_i, mask_e, mask_lt, inside_refl, inside_antisym, has_at_lt, size, size_le, size_strict, empty_inside, at_zeros, zeros_empty}
use Rattle.model.proofs.Sets.{zeros_replicate}
use Rattle.model.proofs.Filter.{filtered_mono, filtered_sets, filtered_inside}

-- ---- a row inside the sets
pub row_mono : (ds es : List ℕ) → Inside ds es → (x v : ℕ) (ys ws : List ℕ) → T (row_with ds x v ys ws) → T (row_with es x v ys ws)
unfolding row_with
row_mono ds es h x v [] [] t = t
row_mono ds es h x v [] (w ∷ ws) t = t
row_mono ds es h x v (y ∷ ys) [] t = t
row_mono ds es h x v (y ∷ ys) (w ∷ ws) t =
    let q : Bool = elim (eqb x y) [ true ↦ eqb v w | false ↦ true ] in
    let r = both_r (has (at ds y) w) (both q (row_with ds x v ys ws)) t in
    both_i (has (at es y) w) (both q (row_with es x v ys ws)) (h y w (both_l (has (at ds y) w) (both q (row_with ds x v ys ws)) t))
    (both_i q (row_with es x v ys ws) (both_l q (row_with ds x v ys ws) r) (row_mono ds es h x v ys ws (both_r q (row_with ds x v ys ws) r)))

pub supported_mono : (ds es : List ℕ) → Inside ds es → (x v : ℕ) (c : Constraint) → T (supported ds x v c) → T (supported es x v c)
unfolding supported
supported_mono ds es h x v c t = go (any (eqb x) c.scope) t
  where
    go : (b : Bool) → T (elim b [ true ↦ any (row_with ds x v c.scope) c.rows | false ↦ true ]) → T (elim b [ true ↦ any (row_with es x v c.scope) c.rows | false ↦ true ])
    go true t = let r = any_e (row_with ds x v c.scope) c.rows t in any_i (row_with es x v c.scope) c.rows r.0 r.1 (row_mono ds es h x v c.scope r.0 r.2)
    go false t = tt

-- supported means: a row, where x is one of the constraint's variables
pub supported_e : (ds : List ℕ) (x v : ℕ) (c : Constraint) → Memᴰ x c.scope → T (supported ds x v c) → T (any (row_with ds x v c.scope) c.rows)
unfolding supported
supported_e ds x v c m t = go (any (eqb x) c.scope) (any_i (eqb x) c.scope x m (eqb_refl x)) t
  where
    go : (b : Bool) → T b → T (elim b [ true ↦ any (row_with ds x v c.scope) c.rows | false ↦ true ]) → T (any (row_with ds x v c.scope) c.rows)
    go true b t = t
    go false b t = absurd b

pub supported_i : (ds : List ℕ) (x v : ℕ) (c : Constraint) → (Memᴰ x c.scope → T (any (row_with ds x v c.scope) c.rows)) → T (supported ds x v c)
unfolding supported
supported_i ds x v c h = go (any (eqb x) c.scope) refl
  where
    go : (b : Bool) → any (eqb x) c.scope ≡ b → T (elim b [ true ↦ any (row_with ds x v c.scope) c.rows | false ↦ true ])
    go true e = let r = any_e (eqb x) c.scope (T_of (any (eqb x) c.scope) e) in h (Memᴰ-cast (eqb→eq x r.0 r.2) r.1)
    go false e = tt

-- ---- what one round keeps
pub record Kept (p : Problem) (prefix ds : List ℕ) (x v : ℕ) : Type 0 where
  pub member : T (has (at ds x) v)
  pub rows : (c : Constraint) → Memᴰ c p.constraints → T (supported ds x v c)
  pub filters : (g : List ℕ) → Memᴰ g p.symmetries → T (has (at (filtered ds (nogoods_of p g prefix)) x) v)

module _ (p : Problem) (prefix : List ℕ) where
  at_pruned : (ds : List ℕ) (x : ℕ) → x < p.variables → at (pruned p prefix ds) x ≡ mask_of (kept_by p ds (left_by p prefix ds) x)
  unfolding pruned
  at_pruned ds x h = at_tabulate p.variables (λ y. mask_of (kept_by p ds (left_by p prefix ds) y)) x h

  pub length_pruned : (ds : List ℕ) → length (pruned p prefix ds) ≡ p.variables
  unfolding pruned
  length_pruned ds = length_tabulate p.variables _

  pub pruned_i : (ds : List ℕ) (x v : ℕ) → x < p.variables → v < 16 → Kept p prefix ds x v → T (has (at (pruned p prefix ds) x) v)
  pruned_i ds x v l b k =
      subst (λ (s : ℕ). T (has s v)) (sym (at_pruned ds x l))
      (mask_i (kept_by p ds (left_by p prefix ds) x) v b
      (both_i (has (at ds x) v) (both (all (supported ds x v) p.constraints) (all (λ f. has (at f x) v) (left_by p prefix ds))) k.member
      (both_i (all (supported ds x v) p.constraints) (all (λ f. has (at f x) v) (left_by p prefix ds)) (all_i (supported ds x v) p.constraints k.rows)
      (all_i (λ f. has (at f x) v) (left_by p prefix ds)
      (λ f m. let r = Memᴰ-of_map (λ g. filtered ds (nogoods_of p g prefix)) p.symmetries m in subst (λ (e : List ℕ). T (has (at e x) v)) r.2 (k.filters r.0 r.1))))))

  pub pruned_e : (ds : List ℕ) (x v : ℕ) → T (has (at (pruned p prefix ds) x) v) → (x < p.variables) × (v < 16) × Kept p prefix ds x v
  pruned_e ds x v t =
      let l : x < p.variables = subst (λ (n : ℕ). x < n) (length_pruned ds) (has_at_lt (pruned p prefix ds) x v t) in
      let m = mask_e (kept_by p ds (left_by p prefix ds) x) v (subst (λ (s : ℕ). T (has s v)) (at_pruned ds x l) t) in
      let q = both_r (has (at ds x) v) (both (all (supported ds x v) p.constraints) (all (λ f. has (at f x) v) (left_by p prefix ds))) m.1 in (
        l,
        m.0,
        record {
          member = both_l (has (at ds x) v) (both (all (supported ds x v) p.constraints) (all (λ f. has (at f x) v) (left_by p prefix ds))) m.1;
          rows = all_e (supported ds x v) p.constraints (both_l (all (supported ds x v) p.constraints) (all (λ f. has (at f x) v) (left_by p prefix ds)) q);
          filters = λ g i. all_e (λ f. has (at f x) v) (left_by p prefix ds) (both_r (all (supported ds x v) p.constraints) (all (λ f. has (at f x) v) (left_by p prefix ds)) q)
              (filtered ds (nogoods_of p g prefix)) (Memᴰ-map (λ h. filtered ds (nogoods_of p h prefix)) i);
        },
      )

  pub pruned_sets : (ds : List ℕ) → Sets p.variables (pruned p prefix ds)
  pruned_sets ds = (length_pruned ds, λ x. pick x (ltb x p.variables) refl)
    where
      pick : (x : ℕ) (b : Bool) → ltb x p.variables ≡ b → at (pruned p prefix ds) x < 2 ^ 16
      pick x true e = subst (λ (s : ℕ). s < 2 ^ 16) (sym (at_pruned ds x (ltb-true x p.variables e))) (mask_lt 16 _)
      pick x false e = subst (λ (s : ℕ). s < 2 ^ 16) (sym (at_out (pruned p prefix ds) x (subst (λ (n : ℕ). n ≤ x) (sym (length_pruned ds)) (ltb-false x p.variables e)))) (omega arith)

  pub pruned_inside : (ds : List ℕ) → Inside (pruned p prefix ds) ds
  pruned_inside ds x v t = (pruned_e ds x v t).2.member

  pub kept_mono : (ds es : List ℕ) → length ds ≡ length es → Inside ds es → (x v : ℕ) → Kept p prefix ds x v → Kept p prefix es x v
  kept_mono ds es e h x v k = record {
    member = h x v k.member;
    rows = λ c m. supported_mono ds es h x v c (k.rows c m);
    filters = λ g m. filtered_mono ds es (nogoods_of p g prefix) e h x v (k.filters g m);
  }

  pub pruned_mono : (ds es : List ℕ) → length ds ≡ length es → Inside ds es → Inside (pruned p prefix ds) (pruned p prefix es)
  pruned_mono ds es e h x v t = let r = pruned_e ds x v t in pruned_i es x v r.0 r.1 (kept_mono ds es e h x v r.2)

  -- ---- the sets that a round leaves as they are, by their values
  pub fixed_i : (ds : List ℕ) → Sets p.variables ds → ((x v : ℕ) → T (has (at ds x) v) → Kept p prefix ds x v) → pruned p prefix ds ≡ ds
  fixed_i ds s h =
      inside_antisym p.variables (pruned p prefix ds) ds (pruned_sets ds) s (pruned_inside ds)
      (λ x v t. pruned_i ds x v (subst (λ (n : ℕ). x < n) s.0 (has_at_lt ds x v t)) (has_lt 16 (at ds x) v (s.1 x) t) (h x v t))

  pub fixed_e : (ds : List ℕ) → pruned p prefix ds ≡ ds → (x v : ℕ) → T (has (at ds x) v) → Kept p prefix ds x v
  fixed_e ds e x v t = (pruned_e ds x v (subst (λ (l : List ℕ). T (has (at l x) v)) (sym e) t)).2

  -- ---- rounds
  pub rounds_ind : (P : List ℕ → Type 0) → ((ds : List ℕ) → P ds → P (pruned p prefix ds)) → (k : ℕ) (ds : List ℕ) → P ds → P (rounds p prefix k ds)
  unfolding rounds
  rounds_ind P h zero ds d = d
  rounds_ind P h (suc k) ds d = go (rounds_ind P h k (pruned p prefix ds) (h ds d)) (same ds (pruned p prefix ds))
    where
      go : P (rounds p prefix k (pruned p prefix ds)) → (b : Bool) → P (elim b [ true ↦ ds | false ↦ rounds p prefix k (pruned p prefix ds) ])
      go ih true = d
      go ih false = ih

  -- each round that changes something takes at least one value away
  pub shrinks : (ds : List ℕ) → Sets p.variables ds → size ds ≤ size (pruned p prefix ds) → pruned p prefix ds ≡ ds
  shrinks ds s h =
      inside_antisym p.variables (pruned p prefix ds) ds (pruned_sets ds) s (pruned_inside ds)
      (size_strict (pruned p prefix ds) ds (length_pruned ds ∙ sym s.0) s.1 (pruned_inside ds) h)

  pub rounds_fixed : (k : ℕ) (ds : List ℕ) → Sets p.variables ds → size ds ≤ k → pruned p prefix (rounds p prefix k ds) ≡ rounds p prefix k ds
  unfolding rounds
  rounds_fixed zero ds s h = shrinks ds s (omega arith)
  rounds_fixed (suc k) ds s h = go (rounds_fixed k (pruned p prefix ds) (pruned_sets ds)) (same ds (pruned p prefix ds)) refl
    where
      next : List ℕ
      next = pruned p prefix ds

      fewer : same ds (pruned p prefix ds) ≡ false → size (pruned p prefix ds) ≤ k
      fewer e = pick (ltb (size (pruned p prefix ds)) (size ds)) refl
        where
          pick : (b : Bool) → ltb (size (pruned p prefix ds)) (size ds) ≡ b → size (pruned p prefix ds) ≤ k
          pick true q = let l = ltb-true (size (pruned p prefix ds)) (size ds) q in omega arith
          pick false q = absurd (of_not (same ds (pruned p prefix ds)) e (subst (λ (l : List ℕ). T (same ds l)) (sym (shrinks ds s (ltb-false (size (pruned p prefix ds)) (size ds) q)))
              (same_refl ds)))

      go : (size (pruned p prefix ds) ≤ k → pruned p prefix (rounds p prefix k (pruned p prefix ds)) ≡ rounds p prefix k (pruned p prefix ds)) → (b : Bool) → same ds (pruned p prefix ds) ≡ b →
          pruned p prefix (elim b [ true ↦ ds | false ↦ rounds p prefix k (pruned p prefix ds) ]) ≡ elim b [ true ↦ ds | false ↦ rounds p prefix k (pruned p prefix ds) ]
      go ih true e = sym (same_eq ds (pruned p prefix ds) (T_of (same ds (pruned p prefix ds)) e))
      go ih false e = ih (fewer e)

-- ---- the initial sets, given the variables of the prefix fixed
pub length_narrowed : (vs ds : List ℕ) → length (narrowed vs ds) ≡ length ds
unfolding narrowed
length_narrowed [] ds = refl
length_narrowed (v ∷ vs) [] = refl
length_narrowed (v ∷ vs) (s ∷ ds) = ap suc (length_narrowed vs ds)

pub narrowed_small : (vs ds : List ℕ) → ((x : ℕ) → at ds x < 2 ^ 16) → (x : ℕ) → at (narrowed vs ds) x < 2 ^ 16
unfolding narrowed at
narrowed_small [] ds h x = h x
narrowed_small (v ∷ vs) [] h x = h x
narrowed_small (v ∷ vs) (s ∷ ds) h zero = mask_lt 16 _
narrowed_small (v ∷ vs) (s ∷ ds) h (suc x) = narrowed_small vs ds (λ y. h (suc y)) x

pub narrowed_i : (vs ds : List ℕ) (x w : ℕ) → w < 16 → T (has (at ds x) w) → (x < length vs → w ≡ at vs x) → T (has (at (narrowed vs ds) x) w)
unfolding narrowed at
narrowed_i [] ds x w b t h = t
narrowed_i (v ∷ vs) [] x w b t h = t
narrowed_i (v ∷ vs) (s ∷ ds) zero w b t h = mask_i (λ u. both (eqb u v) (has s u)) w b (both_i (eqb w v) (has s w) (subst (λ (u : ℕ). T (eqb w u)) (h (omega arith)) (eqb_refl w)) t)
narrowed_i (v ∷ vs) (s ∷ ds) (suc x) w b t h = narrowed_i vs ds x w b t (λ l. h (omega arith))

pub narrowed_e : (vs ds : List ℕ) (x w : ℕ) → T (has (at (narrowed vs ds) x) w) → T (has (at ds x) w) × (x < length vs → w ≡ at vs x)
unfolding narrowed at
narrowed_e [] ds x w t = (t, λ l. absurd (not-suc-le-zero l))
narrowed_e (v ∷ vs) [] x w t = (t, λ l. absurd (subst T (has_none w) t))
narrowed_e (v ∷ vs) (s ∷ ds) zero w t =
    let r = mask_e (λ u. both (eqb u v) (has s u)) w t in
    (both_r (eqb w v) (has s w) r.1, λ l. eqb→eq w v (both_l (eqb w v) (has s w) r.1))
narrowed_e (v ∷ vs) (s ∷ ds) (suc x) w t = let r = narrowed_e vs ds x w t in (r.0, λ l. r.1 (le_of_suc-le-suc l))

-- ---- the largest sets
abbrev pub Sized : Problem → Type 0
Sized p = Sets p.variables p.initial

-- the sets ds are the largest inside the initial ones, given the prefix, that a round leaves as they are
pub record Largest (p : Problem) (prefix ds : List ℕ) : Type 0 where
  pub sets : Sets p.variables ds
  pub inside : Inside ds (narrowed prefix p.initial)
  pub fixed : pruned p prefix ds ≡ ds
  pub above : (es : List ℕ) → length es ≡ p.variables → Inside es (narrowed prefix p.initial) → pruned p prefix es ≡ es → Inside es ds

pub start_sets : (p : Problem) (prefix : List ℕ) → Sized p → Sets p.variables (narrowed prefix p.initial)
start_sets p prefix s = (length_narrowed prefix p.initial ∙ s.0, narrowed_small prefix p.initial s.1)

-- a fixed point inside sets is inside what a round makes of them
pub fixed_below : (p : Problem) (prefix es : List ℕ) → length es ≡ p.variables → pruned p prefix es ≡ es → (ds : List ℕ) → Sets p.variables ds → Inside es ds → Inside es (pruned p prefix ds)
fixed_below p prefix es l e ds s h x v t = pruned_mono p prefix es ds (l ∙ sym s.0) h x v (subst (λ (m : List ℕ). T (has (at m x) v)) (sym e) t)

pub largest : (p : Problem) (prefix : List ℕ) → Sized p → Largest p prefix (closed p prefix)
largest p prefix s = record {
  sets = rounds_ind p prefix (Sets p.variables) (λ ds d. pruned_sets p prefix ds) (rounds_enough p) start (start_sets p prefix s);
  inside = rounds_ind p prefix (λ ds. Inside ds start) (λ ds d x v t. d x v (pruned_inside p prefix ds x v t)) (rounds_enough p) start (inside_refl start);
  fixed = rounds_fixed p prefix (rounds_enough p) start (start_sets p prefix s) enough;
  above = λ es l h e. (rounds_ind p prefix (λ ds. Sets p.variables ds × Inside es ds) (λ ds d. (pruned_sets p prefix ds, fixed_below p prefix es l e ds d.0 d.1)) (rounds_enough p) start
      (start_sets p prefix s, h)).1;
}
  where
    start : List ℕ
    start = narrowed prefix p.initial

    enough : size start ≤ rounds_enough p
    enough = let l : size start ≤ p.variables * 16 = subst (λ (n : ℕ). size start ≤ n * 16) (start_sets p prefix s).0 (size_le start) in omega (arith, l)

-- ---- any order of removals
-- es comes from ds by taking away values that a round would take away too
pub record Removal (p : Problem) (prefix ds es : List ℕ) : Type 0 where
  pub sets : Sets p.variables es
  pub less : Inside es ds
  pub spared : (x v : ℕ) → T (has (at ds x) v) → Kept p prefix ds x v → T (has (at es x) v)

-- a step of a program: the filter of one symmetry
pub filter_removal : (p : Problem) (prefix ds : List ℕ) → Sets p.variables ds → (g : List ℕ) → Memᴰ g p.symmetries → Removal p prefix ds (filtered ds (nogoods_of p g prefix))
filter_removal p prefix ds s g m = record {
  sets = subst (λ (n : ℕ). Sets n (filtered ds (nogoods_of p g prefix))) s.0 (filtered_sets ds (nogoods_of p g prefix));
  less = filtered_inside ds (nogoods_of p g prefix);
  spared = λ x v t k. k.filters g m;
}

-- ---- sets on the way to the largest ones
pub way_start : (p : Problem) (prefix : List ℕ) → Sized p → Way p prefix (narrowed prefix p.initial)
way_start p prefix s = record { sets = start_sets p prefix s; inside = inside_refl (narrowed prefix p.initial); over = (largest p prefix s).inside }

pub way_removal : (p : Problem) (prefix : List ℕ) → Sized p → (es fs : List ℕ) → Way p prefix es → Removal p prefix es fs → Way p prefix fs
way_removal p prefix s es fs w q =
    let l = largest p prefix s in
    record {
      sets = q.sets;
      inside = λ x v t. w.inside x v (q.less x v t);
      over = λ x v t. q.spared x v (w.over x v t) (kept_mono p prefix (closed p prefix) es (l.sets.0 ∙ sym w.sets.0) w.over x v (fixed_e p prefix (closed p prefix) l.fixed x v t));
    }

-- a program that stops where a round takes nothing away has the largest sets
pub way_end : (p : Problem) (prefix : List ℕ) → Sized p → (es : List ℕ) → Way p prefix es → pruned p prefix es ≡ es → es ≡ closed p prefix
way_end p prefix s es w e =
    let l = largest p prefix s in
    inside_antisym p.variables es (closed p prefix) w.sets l.sets (l.above es w.sets.0 w.inside e) w.over

-- ---- the sets at a prefix
pub sets_at_live : (p : Problem) (prefix : List ℕ) → any_empty (closed p prefix) ≡ false → sets_at p prefix ≡ closed p prefix
unfolding sets_at
sets_at_live p prefix e = go (any_empty (closed p prefix)) e
  where
    go : (b : Bool) → b ≡ false → elim b [ true ↦ map (λ s. 0) (closed p prefix) | false ↦ closed p prefix ] ≡ closed p prefix
    go true e = absurd (subst T e tt)
    go false e = refl

pub sets_at_dead : (p : Problem) (prefix : List ℕ) → any_empty (closed p prefix) ≡ true → sets_at p prefix ≡ map (λ s. 0) (closed p prefix)
unfolding sets_at
sets_at_dead p prefix e = go (any_empty (closed p prefix)) e
  where
    go : (b : Bool) → b ≡ true → ◌≡◌ {A = List ℕ} (elim b [ true ↦ map (λ s. 0) (closed p prefix) | false ↦ closed p prefix ]) (map (λ s. 0) (closed p prefix))
    go true e = refl
    go false e = absurd (subst T (sym e) tt)

pub sets_at_none : (p : Problem) (prefix : List ℕ) → Sized p → any_empty (closed p prefix) ≡ true → sets_at p prefix ≡ replicate p.variables 0
sets_at_none p prefix s e = sets_at_dead p prefix e ∙ zeros_replicate (closed p prefix) ∙ ap (λ (n : ℕ). replicate n 0) (largest p prefix s).sets.0

pub sets_at_sets : (p : Problem) (prefix : List ℕ) → Sized p → Sets p.variables (sets_at p prefix)
sets_at_sets p prefix s = go (any_empty (closed p prefix)) refl
  where
    k : Largest p prefix (closed p prefix)
    k = largest p prefix s

    go : (b : Bool) → any_empty (closed p prefix) ≡ b → Sets p.variables (sets_at p prefix)
    go true e = subst (Sets p.variables) (sym (sets_at_dead p prefix e)) (
      lib.ListN.length-map (closed p prefix) (λ z. 0) ∙ k.sets.0,
      λ x. subst (λ (z : ℕ). z < 2 ^ 16)
          (sym (at_zeros (closed p prefix) x)) (omega arith),
    )
    go false e = subst (Sets p.variables) (sym (sets_at_live p prefix e)) k.sets

-- a prefix is live exactly if no largest set is empty
pub live_is : (p : Problem) (prefix : List ℕ) → is_live p prefix ≡ not (any_empty (closed p prefix))
unfolding is_live
live_is p prefix = ap not (go (any_empty (closed p prefix)) refl)
  where
    go : (b : Bool) → any_empty (closed p prefix) ≡ b → any_empty (sets_at p prefix) ≡ any_empty (closed p prefix)
    go true e = ap any_empty (sets_at_dead p prefix e) ∙ of_T (any_empty (map (λ s. 0) (closed p prefix))) (zeros_empty (closed p prefix) (T_of (any_empty (closed p prefix)) e)) ∙ sym e
    go false e = ap any_empty (sets_at_live p prefix e)

pub live_closed : (p : Problem) (prefix : List ℕ) → T (is_live p prefix) → any_empty (closed p prefix) ≡ false
live_closed p prefix t = not_of (any_empty (closed p prefix)) (T_not (any_empty (closed p prefix)) (subst T (live_is p prefix) t))

-- where the sets at a prefix have a value at all, it is live
pub value_live : (p : Problem) (prefix : List ℕ) (x v : ℕ) → T (has (at (sets_at p prefix) x) v) → any_empty (closed p prefix) ≡ false
value_live p prefix x v t =
    not_of (any_empty (closed p prefix))
    (λ q. let e = of_T (any_empty (closed p prefix)) q in
    of_not (has 0 v) (has_none v) (subst (λ (m : ℕ). T (has m v)) (ap (λ (l : List ℕ). at l x) (sets_at_dead p prefix e) ∙ at_zeros (closed p prefix) x) t))

-- largest sets inside others: so are the sets at the prefixes
module _ (p q : Problem) (a b : List ℕ) (s : Sized p) (t : Sized q) (e : p.variables ≡ q.variables) (h : Inside (closed p a) (closed q b)) where
  still_live : any_empty (closed p a) ≡ false → any_empty (closed q b) ≡ false
  still_live n =
      not_of (any_empty (closed q b))
      (λ u. of_not (any_empty (closed p a)) n (empty_inside q.variables (closed p a) (closed q b) (subst (λ (k : ℕ). Sets k (closed p a)) e (largest p a s).sets) (largest q b t).sets h u))

  pub live_mono : T (is_live p a) → T (is_live q b)
  live_mono u = T_of (is_live q b) (live_is q b ∙ ap not (still_live (live_closed p a u)))

  pub sets_at_mono : Inside (sets_at p a) (sets_at q b)
  sets_at_mono x v u =
      let n = value_live p a x v u in
      subst (λ (l : List ℕ). T (has (at l x) v)) (sym (sets_at_live q b (still_live n))) (h x v (subst (λ (l : List ℕ). T (has (at l x) v)) (sets_at_live p a n) u))

-- a program that stops where a round takes nothing away has the sets at the prefix, if none is empty
pub way_live : (p : Problem) (prefix : List ℕ) → Sized p → (es : List ℕ) → Way p prefix es → pruned p prefix es ≡ es → any_empty es ≡ false → sets_at p prefix ≡ es
way_live p prefix s es w e n = let q = way_end p prefix s es w e in sets_at_live p prefix (ap any_empty (sym q) ∙ n) ∙ sym q
