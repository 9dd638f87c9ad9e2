-- The laws of pairs, and of solutions of a well-formed problem. Assumes nothing.
use Rattle.model.specs.Kit.{◌≡◌, refl, sym, ap, ap₂, ◌∙◌, subst, not, List, [], ◌∷◌, map, Memᴰ, Memᴰ-head, Memᴰ-tail, Memᴰ-append_left, Memᴰ-cast, Memᴰ-map, Memᴰ-of_map, ◌⊎◌, inl}
use Rattle.model.specs.Kit.{inr, ⊎_elim, ℕ, suc, ◌+◌, ◌<◌, ◌/◌, ◌%◌, ◌*◌, ◌^◌, mod-eq_of_lt, mul-le-mul_right, arith, T, T_not, not_T, eqb, ltb, eqb→eq, eqb_refl, ltb→lt, lt→ltb}
use Rattle.model.specs.Problem.{pairs_at, Problem, Constraint, pair, is_pair, pairs_of, within, assignments, excluded, doubled, forbidden, values_at, satisfies, is_solution}
use Rattle.model.specs.{Lists.any, Lists.keep, Lists.flat, Lists.below, Lists.at, Lists.same, ValueSets.has, ValueSets.members, Inner.WellFormed.WellFormed, Claims.Drawn}
use mathlib.Core.List.Memᴰ
use native.Mathlib.Nat.{mul-add-div_right, mul-add-mod_self_right, div-eq_of_lt, div-add-mod', div-lt_iff_lt-mul, mod-lt, add-zero}
use Rattle.model.proofs.Lists.{both_i, both_l, both_r, all_e, all_i, any_e, any_i, keep_e, keep_i, flat_i, flat_e, below_i, below_e}
use Rattle.model.proofs.{Sets.has_lt, Sets.members_i, Sets.members_e, Assignments.drawn_e, Tree.solution_e}

pub within_i : (xs ys : List ℕ) → ((x : ℕ) → Memᴰ x xs → Memᴰ x ys) → T (within xs ys)
unfolding within
within_i xs ys h = all_i (λ x. any (eqb x) ys) xs (λ x m. any_i (eqb x) ys x (h x m) (eqb_refl x))

pub within_e : (xs ys : List ℕ) → T (within xs ys) → (x : ℕ) → Memᴰ x xs → Memᴰ x ys
unfolding within
within_e xs ys h x m = let r = any_e (eqb x) ys (all_e (λ z. any (eqb z) ys) xs h x m) in Memᴰ-cast (eqb→eq x r.0 r.2) r.1

module _ (p : Problem) where
  pub pairs_i : (a : List ℕ) (x : ℕ) → x < p.variables → Memᴰ (pair p x (at a x)) (pairs_of p a)
  unfolding pairs_of
  pairs_i a x h = Memᴰ-map (λ y. pair p y (at a y)) (below_i p.variables x h)

  pub pairs_e : (a : List ℕ) (q : ℕ) → Memᴰ q (pairs_of p a) → (x : ℕ) × (x < p.variables) × (q ≡ pair p x (at a x))
  unfolding pairs_of
  pairs_e a q m = let r = Memᴰ-of_map (λ y. pair p y (at a y)) (below p.variables) m in (r.0, below_e p.variables r.0 r.1, sym r.2)

  -- the forbidden sets
  pub doubled_e : (x : ℕ) (h : List ℕ) → Memᴰ h (doubled p x) → (v : ℕ) × (u : ℕ) × T (has (at p.initial x) v) × T (has (at p.initial x) u) × (v < u) × (h ≡ pair p x v ∷ pair p x u ∷ [])
  unfolding doubled
  doubled_e x h m =
      let S = members (at p.initial x) in
      let F : ℕ → List (List ℕ) = λ v. map (λ u. pair p x v ∷ pair p x u ∷ []) (keep (ltb v) S) in
      let r = flat_e (map F S) h m in
      let q = Memᴰ-of_map F S r.1 in
      let v = q.0 in
      let k = Memᴰ-of_map (λ u. pair p x v ∷ pair p x u ∷ []) (keep (ltb v) S) (subst (Memᴰ h) (sym q.2) r.2) in
      let u = k.0 in
      let z = keep_e (ltb v) S u k.1 in
      (v, u, (members_e (at p.initial x) v q.1).1, (members_e (at p.initial x) u z.0).1, ltb→lt v u z.1, sym k.2)

  pub doubled_i : (x v u : ℕ) → v < u → u < 16 → T (has (at p.initial x) v) → T (has (at p.initial x) u) → Memᴰ (pair p x v ∷ pair p x u ∷ []) (doubled p x)
  unfolding doubled
  doubled_i x v u l b s t =
      let S = members (at p.initial x) in
      let F : ℕ → List (List ℕ) = λ v. map (λ u. pair p x v ∷ pair p x u ∷ []) (keep (ltb v) S) in
      flat_i (map F S) (F v) (pair p x v ∷ pair p x u ∷ []) (Memᴰ-map F (members_i (at p.initial x) v (omega arith) s))
      (Memᴰ-map (λ w. pair p x v ∷ pair p x w ∷ []) (keep_i (ltb v) S u (members_i (at p.initial x) u b t) (lt→ltb v u l)))

  pub excluded_e : (c : Constraint) (h : List ℕ) → Memᴰ h (excluded p c)
      → (vs : List ℕ) × Memᴰ vs (assignments (map (at p.initial) c.scope)) × (T (any (same vs) c.rows) → ⊥) × (h ≡ pairs_at p c.scope vs)
  unfolding excluded
  excluded_e c h m =
      let S = assignments (map (at p.initial) c.scope) in
      let r = Memᴰ-of_map (pairs_at p c.scope) (keep (λ vs. not (any (same vs) c.rows)) S) m in
      let k = keep_e (λ vs. not (any (same vs) c.rows)) S r.0 r.1 in
      (r.0, k.0, T_not (any (same r.0) c.rows) k.1, sym r.2)

  pub excluded_i : (c : Constraint) (vs : List ℕ) → Memᴰ vs (assignments (map (at p.initial) c.scope)) → (T (any (same vs) c.rows) → ⊥) → Memᴰ (pairs_at p c.scope vs)
      (excluded p c)
  unfolding excluded
  excluded_i c vs d n =
      Memᴰ-map (pairs_at p c.scope)
      (keep_i (λ us. not (any (same us) c.rows)) (assignments (map (at p.initial) c.scope)) vs d (not_T (any (same vs) c.rows) n))

  pub forbidden_e : (h : List ℕ) → Memᴰ h (forbidden p)
      → ((x : ℕ) × (x < p.variables) × Memᴰ h (doubled p x)) ⊎ ((c : Constraint) × Memᴰ c p.constraints × Memᴰ h (excluded p c))
  unfolding forbidden
  forbidden_e h m =
      ⊎_elim {C = ((x : ℕ) × (x < p.variables) × Memᴰ h (doubled p x)) ⊎ ((c : Constraint) × Memᴰ c p.constraints × Memᴰ h (excluded p c))}
      (λ k. let r = flat_e (map (doubled p) (below p.variables)) h k in let q = Memᴰ-of_map (doubled p) (below p.variables) r.1 in
      inl (q.0, below_e p.variables q.0 q.1, subst (Memᴰ h) (sym q.2) r.2))
      (λ k. let r = flat_e (map (excluded p) p.constraints) h k in let q = Memᴰ-of_map (excluded p) p.constraints r.1 in
      inr (q.0, q.1, subst (Memᴰ h) (sym q.2) r.2))
      (Memᴰ.append_cases (flat (map (doubled p) (below p.variables))) m)

  pub forbidden_doubled : (x : ℕ) (h : List ℕ) → x < p.variables → Memᴰ h (doubled p x) → Memᴰ h (forbidden p)
  unfolding forbidden
  forbidden_doubled x h l m = Memᴰ-append_left (flat (map (excluded p) p.constraints))
      (flat_i (map (doubled p) (below p.variables)) (doubled p x) h (Memᴰ-map (doubled p) (below_i p.variables x l)) m)

  pub forbidden_excluded : (c : Constraint) (h : List ℕ) → Memᴰ c p.constraints → Memᴰ h (excluded p c) → Memᴰ h (forbidden p)
  unfolding forbidden
  forbidden_excluded c h l m = Memᴰ.append_right (flat (map (doubled p) (below p.variables))) (flat_i (map (excluded p) p.constraints) (excluded p c) h (Memᴰ-map (excluded p) l) m)

  -- pairs as numbers
  pub pair_div : (x v : ℕ) → v < p.values → pair p x v / p.values ≡ x
  unfolding pair
  pair_div x v h = mul-add-div_right (omega arith) x v ∙ ap (λ (k : ℕ). x + k) (div-eq_of_lt h) ∙ add-zero x

  pub pair_mod : (x v : ℕ) → v < p.values → pair p x v % p.values ≡ v
  unfolding pair
  pair_mod x v h = mul-add-mod_self_right x p.values v ∙ mod-eq_of_lt h

  pub pair_of : (q : ℕ) → pair p (q / p.values) (q % p.values) ≡ q
  unfolding pair
  pair_of q = div-add-mod' q p.values

  pub pair_lt : (x v : ℕ) → x < p.variables → v < p.values → pair p x v < p.variables * p.values
  unfolding pair
  pair_lt x v h l = omega (arith, mul-le-mul_right p.values h)

  pub pair_first : (x v y u : ℕ) → v < p.values → u < p.values → pair p x v ≡ pair p y u → x ≡ y
  pair_first x v y u h l e = sym (pair_div x v h) ∙ ap (λ (k : ℕ). k / p.values) e ∙ pair_div y u l

  pub pair_second : (x v y u : ℕ) → v < p.values → u < p.values → pair p x v ≡ pair p y u → v ≡ u
  pair_second x v y u h l e = sym (pair_mod x v h) ∙ ap (λ (k : ℕ). k % p.values) e ∙ pair_mod y u l

  pub is_pair_lt : (q : ℕ) → T (is_pair p q) → q < p.variables * p.values
  unfolding is_pair
  is_pair_lt q t = ltb→lt q (p.variables * p.values) (both_l (ltb q (p.variables * p.values)) _ t)

  pub is_pair_has : (q : ℕ) → T (is_pair p q) → T (has (at p.initial (q / p.values)) (q % p.values))
  unfolding is_pair
  is_pair_has q t = both_r (ltb q (p.variables * p.values)) _ t

  -- where the sets hold values of the problem only
  module _ (narrow : (x : ℕ) → x < p.variables → at p.initial x < 2 ^ p.values) where
    pub init_lt : (x v : ℕ) → x < p.variables → T (has (at p.initial x) v) → v < p.values
    init_lt x v h t = has_lt p.values (at p.initial x) v (narrow x h) t

    pub is_pair_i : (x v : ℕ) → x < p.variables → T (has (at p.initial x) v) → T (is_pair p (pair p x v))
    unfolding is_pair
    is_pair_i x v h t =
        let l = init_lt x v h t in
        both_i (ltb (pair p x v) (p.variables * p.values)) _ (lt→ltb (pair p x v) (p.variables * p.values) (pair_lt x v h l))
        (subst T (ap₂ (λ (y u : ℕ). has (at p.initial y) u) (sym (pair_div x v l)) (sym (pair_mod x v l))) t)

  module _ (w : WellFormed p) where
    pub is_pair_var : (q : ℕ) → T (is_pair p q) → q / p.values < p.variables
    is_pair_var q t = (div-lt_iff_lt-mul w.one).1 (is_pair_lt q t)

    pub mod_small : (q : ℕ) → q % p.values < p.values
    mod_small q = mod-lt q w.one

    -- a solution's pairs
    module _ (a : List ℕ) (s : T (is_solution p a)) where
      pub sol_lt : (x : ℕ) → x < p.variables → at a x < p.values
      sol_lt x h = init_lt w.narrow x (at a x) h ((solution_e p a s).drawn x h)

      pub sol_pair : (q : ℕ) → Memᴰ q (pairs_of p a) → T (is_pair p q)
      sol_pair q m = let r = pairs_e a q m in subst (λ (k : ℕ). T (is_pair p k)) (sym r.2) (is_pair_i w.narrow r.0 (at a r.0) r.1 ((solution_e p a s).drawn r.0 r.1))

      pub sol_at : (x v : ℕ) → v < p.values → Memᴰ (pair p x v) (pairs_of p a) → at a x ≡ v
      sol_at x v l m =
          let r = pairs_e a (pair p x v) m in
          let u = sol_lt r.0 r.1 in
          ap (at a) (pair_first x v r.0 (at a r.0) l u r.2) ∙ sym (pair_second x v r.0 (at a r.0) l u r.2)

      -- the pairs hold no forbidden set
      no_doubled : (x : ℕ) (h : List ℕ) → x < p.variables → Memᴰ h (doubled p x) → ((q : ℕ) → Memᴰ q h → Memᴰ q (pairs_of p a)) → ⊥
      no_doubled x h l m i =
          let r = doubled_e x h m in
          let j : (q : ℕ) → Memᴰ q (pair p x r.0 ∷ pair p x r.1 ∷ []) → Memᴰ q (pairs_of p a) = λ q k. i q (subst (Memᴰ q) (sym r.5) k) in
          let e : at a x ≡ r.0 = sol_at x r.0 (init_lt w.narrow x r.0 l r.2) (j _ (Memᴰ-head refl)) in
          let f : at a x ≡ r.1 = sol_at x r.1 (init_lt w.narrow x r.1 l r.3) (j _ (Memᴰ-tail (Memᴰ-head refl))) in
          omega (arith, r.4)

      scope_values : (xs vs : List ℕ) → ((x : ℕ) → Memᴰ x xs → x < p.variables) → Drawn (map (at p.initial) xs) vs
          → ((q : ℕ) → Memᴰ q (pairs_at p xs vs) → Memᴰ q (pairs_of p a)) → values_at a xs ≡ vs
      unfolding values_at pairs_at at
      scope_values [] [] l d i = refl
      scope_values [] (v ∷ vs) l d i = absurd (omega (arith, d.0))
      scope_values (x ∷ xs) [] l d i = absurd (omega (arith, d.0))
      scope_values (x ∷ xs) (v ∷ vs) l d i =
          ap₂ (λ (y : ℕ) (r : List ℕ). y ∷ r) (sol_at x v (init_lt w.narrow x v (l x (Memᴰ-head refl)) (d.1 0 (omega arith))) (i (pair p x v) (Memᴰ-head refl)))
          (scope_values xs vs (λ y m. l y (Memᴰ-tail m)) (omega (arith, d.0), λ j h. d.1 (suc j) (omega arith)) (λ q m. i q (Memᴰ-tail m)))

      no_excluded : (c : Constraint) (h : List ℕ) → Memᴰ c p.constraints → Memᴰ h (excluded p c) → ((q : ℕ) → Memᴰ q h → Memᴰ q (pairs_of p a)) → ⊥
      unfolding satisfies
      no_excluded c h l m i =
          let r = excluded_e c h m in
          let e = scope_values c.scope r.0 (w.constrained c l).inside (drawn_e (map (at p.initial) c.scope) r.0 r.1) (λ q k. i q (subst (Memᴰ q) (sym r.3) k)) in
          r.2 (subst (λ (us : List ℕ). T (any (same us) c.rows)) e ((solution_e p a s).satisfied c l))

      pub no_forbidden : (h : List ℕ) → Memᴰ h (forbidden p) → ((q : ℕ) → Memᴰ q h → Memᴰ q (pairs_of p a)) → ⊥
      no_forbidden h m i = ⊎_elim {C = ⊥} (λ k. no_doubled k.0 h k.1 k.2 i) (λ k. no_excluded k.0 h k.1 k.2 i) (forbidden_e h m)
