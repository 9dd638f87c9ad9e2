-- The laws of a symmetry that respects a well-formed problem: it permutes the pairs, and the preimage of a solution is a solution. Assumes nothing.
use Rattle.model.specs.Kit.{◌≡◌, refl, sym, ap, ap₂, ◌∙◌, subst, subst₂, Bool, true, false, List, [], ◌∷◌, map, Memᴰ, Memᴰ-head, Memᴰ-tail, Memᴰ-not_nil}
use Rattle.model.specs.Kit.{Memᴰ-cases_cons, Memᴰ-cast, Memᴰ-map, Memᴰ-of_map, ◌⊎◌, inl, inr, ⊎_elim, ℕ, ◌<◌, ◌/◌, ◌%◌, ◌*◌, lt_of_lt_of_le, ℕ_discrete, dec_lt, arith, T, eqb, eqb→eq}
use Rattle.model.specs.Kit.{length, length-map}
use Rattle.model.specs.Problem.{pairs_at, assignments, Problem, Constraint, pair, is_pair, pairs_of, within, takes, forbidden, respects, values_at, satisfies, is_solution}
use Rattle.model.specs.{Lists.all, Lists.any, Lists.below, Lists.at, Lists.same, ValueSets.has, ValueSets.members, Sheet.permutes_pairs, Sheet.distinct, Inner.WellFormed.WellFormed}
use mathlib.Core.List.Memᴰ
use native.Mathlib.Nat.{div-add-mod'}
use Rattle.model.specs.Inner.WellFormed.{GoodSymmetry, Respected}
use Rattle.model.proofs.Lists.{both_i, both_l, both_r, stable, TDec, all_e, any_e, below_i, below_e, length_below, at_below, at_map, mem_at}
use Rattle.model.proofs.{Counting.idx, Counting.idx_spec, Counting.distinct_at, Counting.distinct_below, Counting.onto, Sets.members_i, Assignments.assign_i, Tree.solution_i}
use Rattle.model.proofs.Pairs as P

pick_true : (b c d : Bool) → T (elim b [ true ↦ c | false ↦ d ]) → T b → T c
pick_true true c d h t = h
pick_true false c d h t = absurd t

pick_false : (b c d : Bool) → T (elim b [ true ↦ c | false ↦ d ]) → (T b → ⊥) → T d
pick_false true c d h t = absurd (t tt)
pick_false false c d h t = h

module _ (p : Problem) where
  scope_drawn : (a xs : List ℕ) → ((x : ℕ) → Memᴰ x xs → (at a x < 16) × T (has (at p.initial x) (at a x))) → Memᴰ (values_at a xs) (assignments (map (at p.initial) xs))
  unfolding values_at
  scope_drawn a xs h =
      assign_i (map (at p.initial) xs) (map (at a) xs) (length-map xs (at a) ∙ sym (length-map xs (at p.initial)))
      (λ i l.
      let k : i < length xs = subst (λ (n : ℕ). i < n) (length-map xs (at p.initial)) l in
      let r = h (at xs i) (mem_at xs i k) in
      subst₂ (λ (v s : ℕ). Memᴰ v (members s)) (sym (at_map (at a) xs i k)) (sym (at_map (at p.initial) xs i k)) (members_i (at p.initial (at xs i)) (at a (at xs i)) r.0 r.1))

  scope_pairs : (a xs : List ℕ) → ((x : ℕ) → Memᴰ x xs → x < p.variables) → (q : ℕ) → Memᴰ q (pairs_at p xs (values_at a xs)) → Memᴰ q (pairs_of p a)
  unfolding values_at pairs_at
  scope_pairs a [] h q m = absurd (Memᴰ-not_nil m)
  scope_pairs a (x ∷ xs) h q m =
      ⊎_elim {C = Memᴰ q (pairs_of p a)} (λ e. Memᴰ-cast e (P.pairs_i p a x (h x (Memᴰ-head refl)))) (scope_pairs a xs (λ y k. h y (Memᴰ-tail k)) q) (Memᴰ-cases_cons m)

  module _ (w : WellFormed p) (g : List ℕ) (good : GoodSymmetry p g) where
    abbrev size : ℕ
    size = p.variables * p.values

    permuted : T (all (λ q. elim (is_pair p q) [ true ↦ is_pair p (at g q) | false ↦ eqb (at g q) q ]) (below size)) × T (distinct g)
    unfolding permutes_pairs
    permuted = (
      both_l (all (λ q. elim (is_pair p q) [ true ↦ is_pair p (at g q) | false ↦ eqb (at g q) q ]) (below size)) (distinct g) good.permutes,
      both_r (all (λ q. elim (is_pair p q) [ true ↦ is_pair p (at g q) | false ↦ eqb (at g q) q ]) (below size)) (distinct g) good.permutes,
    )

    moved : (q : ℕ) → q < size → T (elim (is_pair p q) [ true ↦ is_pair p (at g q) | false ↦ eqb (at g q) q ])
    moved q h = all_e (λ q. elim (is_pair p q) [ true ↦ is_pair p (at g q) | false ↦ eqb (at g q) q ]) (below size) permuted.0 q (below_i size q h)

    -- pairs go to pairs, and what is no pair stays
    pub to_pair : (q : ℕ) → T (is_pair p q) → T (is_pair p (at g q))
    to_pair q t = pick_true (is_pair p q) (is_pair p (at g q)) (eqb (at g q) q) (moved q (P.is_pair_lt p q t)) t

    pub to_self : (q : ℕ) → q < size → (T (is_pair p q) → ⊥) → at g q ≡ q
    to_self q h t = eqb→eq (at g q) q (pick_false (is_pair p q) (is_pair p (at g q)) (eqb (at g q) q) (moved q h) t)

    pub injective : (i j : ℕ) → i < size → j < size → at g i ≡ at g j → i ≡ j
    injective i j h k e = distinct_at g permuted.1 i j (subst (λ (n : ℕ). i < n) (sym good.sized) h) (subst (λ (n : ℕ). j < n) (sym good.sized) k) e

    pub image_lt : (q : ℕ) → q < size → at g q < size
    image_lt q h = go (TDec (is_pair p q))
      where
        go : T (is_pair p q) ⊎ (T (is_pair p q) → ⊥) → at g q < size
        go (inl t) = P.is_pair_lt p (at g q) (to_pair q t)
        go (inr t) = subst (λ (k : ℕ). k < size) (sym (to_self q h t)) h

    -- every number below the size has a preimage, and a pair's is a pair
    in_table : (q : ℕ) → q < size → Memᴰ q g
    in_table q h =
        onto g size good.sized permuted.1
        (λ x m. let r = idx_spec x g m in subst (λ (k : ℕ). k < size) r.0 (image_lt (idx x g) (subst (λ (n : ℕ). idx x g < n) good.sized r.1))) q h

    abbrev pub back : ℕ → ℕ
    back q = idx q g

    pub back_at : (q : ℕ) → q < size → at g (back q) ≡ q
    back_at q h = (idx_spec q g (in_table q h)).0

    back_lt : (q : ℕ) → q < size → back q < size
    back_lt q h = subst (λ (n : ℕ). back q < n) good.sized (idx_spec q g (in_table q h)).1

    pub back_pair : (q : ℕ) → T (is_pair p q) → T (is_pair p (back q))
    back_pair q t = stable (is_pair p (back q)) (λ n. n (subst (λ (k : ℕ). T (is_pair p k)) (sym (back_at q l) ∙ to_self (back q) (back_lt q l) n) t))
      where
        l : q < size
        l = P.is_pair_lt p q t

    module _ (respectful : T (respects p g)) where
      pub respected : (f : List ℕ) → Memᴰ f (forbidden p) → (h : List ℕ) × Memᴰ h (forbidden p) × ((q : ℕ) → Memᴰ q h → Memᴰ q (map (at g) f))
      unfolding respects
      respected f m =
          let r = any_e (λ h. within h (map (at g) f)) (forbidden p) (all_e (λ f. any (λ h. within h (map (at g) f)) (forbidden p)) (forbidden p) respectful f m) in
          (r.0, r.1, P.within_e r.0 (map (at g) f) r.2)

      -- a forbidden set whose image lies in a solution
      never : (s : List ℕ) → T (is_solution p s) → (f : List ℕ) → Memᴰ f (forbidden p) → ((q : ℕ) → Memᴰ q f → Memᴰ (at g q) (pairs_of p s)) → ⊥
      never s sol f m i =
          let r = respected f m in
          P.no_forbidden p w s sol r.0 r.1 (λ q k. let z = Memᴰ-of_map (at g) f (r.2 q k) in Memᴰ-cast (sym z.2) (i z.0 z.1))

      module _ (s : List ℕ) (sol : T (is_solution p s)) where
        abbrev n : ℕ
        n = p.variables

        -- the pair that g sends to the solution's pair at x, and its variable
        abbrev r : ℕ → ℕ
        r x = back (pair p x (at s x))

        abbrev var : ℕ → ℕ
        var x = r x / p.values

        s_pair : (x : ℕ) → x < n → T (is_pair p (pair p x (at s x)))
        s_pair x h = P.sol_pair p w s sol (pair p x (at s x)) (P.pairs_i p s x h)

        r_pair : (x : ℕ) → x < n → T (is_pair p (r x))
        r_pair x h = back_pair (pair p x (at s x)) (s_pair x h)

        r_at : (x : ℕ) → x < n → at g (r x) ≡ pair p x (at s x)
        r_at x h = back_at (pair p x (at s x)) (P.is_pair_lt p _ (s_pair x h))

        -- two of them share no variable
        clash : (x y : ℕ) → x < n → y < n → var x ≡ var y → r x < r y → ⊥
        clash x y h k e l =
            let z = var x in
            let v = r x % p.values in
            let u = r y % p.values in
            let ex : pair p z v ≡ r x = P.pair_of p (r x) in
            let ey : pair p z u ≡ r y = ap (λ (j : ℕ). pair p j u) e ∙ P.pair_of p (r y) in
            let f = pair p z v ∷ pair p z u ∷ [] in
            let hu : T (has (at p.initial z) u) = subst (λ (j : ℕ). T (has (at p.initial j) u)) (sym e) (P.is_pair_has p (r y) (r_pair y k)) in
            let small : u < 16 = lt_of_lt_of_le (P.mod_small p w (r y)) w.sixteen in
            never s sol f
            (P.forbidden_doubled p z f (P.is_pair_var p w (r x) (r_pair x h)) (P.doubled_i p z v u (less (r x) (r y) e l) small (P.is_pair_has p (r x) (r_pair x h)) hu))
            (λ q m. ⊎_elim {C = Memᴰ (at g q) (pairs_of p s)} (λ c. Memᴰ-cast (ap (at g) (c ∙ ex) ∙ r_at x h) (P.pairs_i p s x h))
            (λ j. Memᴰ-cast (ap (at g) (Memᴰ.eq_of_singleton j ∙ ey) ∙ r_at y k) (P.pairs_i p s y k)) (Memᴰ-cases_cons m))
          where
            less : (a b : ℕ) → a / p.values ≡ b / p.values → a < b → a % p.values < b % p.values
            less a b c d =
                let ea = div-add-mod' a p.values in
                let eb = div-add-mod' b p.values in
                let ec : a / p.values * p.values ≡ b / p.values * p.values = ap (λ (j : ℕ). j * p.values) c in
                omega arith

        var_inj : (x y : ℕ) → x < n → y < n → var x ≡ var y → x ≡ y
        var_inj x y h k e = go (ℕ_discrete (r x) (r y)) (dec_lt (r x) (r y))
          where
            go : Dec (r x ≡ r y) → Dec (r x < r y) → x ≡ y
            go (yes c) d = P.pair_first p x (at s x) y (at s y) (P.sol_lt p w s sol x h) (P.sol_lt p w s sol y k) (sym (r_at x h) ∙ ap (at g) c ∙ r_at y k)
            go (no c) (yes d) = absurd (clash x y h k e d)
            go (no c) (no d) = absurd (clash y x k h (sym e) (omega arith))

        -- so every variable is the variable of one
        vars : List ℕ
        vars = map var (below n)

        in_vars : (z : ℕ) → z < n → Memᴰ z vars
        unfolding vars
        in_vars z h =
            onto vars n (length_below var n) (distinct_below var n var_inj)
            (λ x m. let c = Memᴰ-of_map var (below n) m in let l = below_e n c.0 c.1 in subst (λ (j : ℕ). j < n) c.2 (P.is_pair_var p w (r c.0) (r_pair c.0 l))) z h

        who : ℕ → ℕ
        who z = idx z vars

        who_lt : (z : ℕ) → z < n → who z < n
        unfolding who vars
        who_lt z h = subst (λ (j : ℕ). who z < j) (length_below var n) (idx_spec z vars (in_vars z h)).1

        who_var : (z : ℕ) → z < n → var (who z) ≡ z
        unfolding who vars
        who_var z h = sym (at_below var n (who z) (who_lt z h)) ∙ (idx_spec z vars (in_vars z h)).0

        -- the preimage
        pub source : List ℕ
        source = map (λ z. r (who z) % p.values) (below n)

        source_length : length source ≡ n
        unfolding source
        source_length = length_below (λ z. r (who z) % p.values) n

        source_at : (z : ℕ) → z < n → at source z ≡ r (who z) % p.values
        unfolding source
        source_at z h = at_below (λ z. r (who z) % p.values) n z h

        source_pair : (z : ℕ) → z < n → pair p z (at source z) ≡ r (who z)
        source_pair z h = ap₂ (pair p) (sym (who_var z h)) (source_at z h) ∙ P.pair_of p (r (who z))

        source_image : (z : ℕ) → z < n → at g (pair p z (at source z)) ≡ pair p (who z) (at s (who z))
        source_image z h = ap (at g) (source_pair z h) ∙ r_at (who z) (who_lt z h)

        image_in : (q : ℕ) → Memᴰ q (pairs_of p source) → Memᴰ (at g q) (pairs_of p s)
        image_in q m =
            let c = P.pairs_e p source q m in
            Memᴰ-cast (ap (at g) c.2 ∙ source_image c.0 c.1) (P.pairs_i p s (who c.0) (who_lt c.0 c.1))

        image_on : (q : ℕ) → Memᴰ q (pairs_of p s) → Memᴰ q (map (at g) (pairs_of p source))
        image_on q m =
            let c = P.pairs_e p s q m in
            let x = c.0 in
            let z = var x in
            let l : z < n = P.is_pair_var p w (r x) (r_pair x c.1) in
            let e : who z ≡ x = var_inj (who z) x (who_lt z l) c.1 (who_var z l) in
            Memᴰ-cast (c.2 ∙ ap (λ (j : ℕ). pair p j (at s j)) (sym e) ∙ sym (source_image z l))
            (Memᴰ-map (at g) (P.pairs_i p source z l))

        source_has : (z : ℕ) → z < n → T (has (at p.initial z) (at source z))
        source_has z h =
            subst T (ap₂ (λ (j u : ℕ). has (at p.initial j) u) (who_var z h) (sym (source_at z h)))
            (P.is_pair_has p (r (who z)) (r_pair (who z) (who_lt z h)))

        source_row : (c : Constraint) → Memᴰ c p.constraints → T (satisfies source c)
        unfolding satisfies
        source_row c m =
            stable (any (same (values_at source c.scope)) c.rows)
            (λ no_row. let l = (w.constrained c m).inside in
            let d = scope_drawn source c.scope (λ x k. (lt_of_lt_of_le (P.init_lt p w.narrow x (at source x) (l x k) (source_has x (l x k))) w.sixteen, source_has x (l x k))) in
            let f = pairs_at p c.scope (values_at source c.scope) in
            never s sol f (P.forbidden_excluded p c f m (P.excluded_i p c (values_at source c.scope) d no_row))
            (λ q k. image_in q (scope_pairs source c.scope l q k)))

        pub source_solution : T (is_solution p source)
        source_solution = solution_i p source record { sized = source_length; drawn = source_has; satisfied = source_row }

        pub source_takes : T (takes p g source s)
        unfolding takes
        source_takes =
            both_i (within (map (at g) (pairs_of p source)) (pairs_of p s)) (within (pairs_of p s) (map (at g) (pairs_of p source)))
            (P.within_i (map (at g) (pairs_of p source)) (pairs_of p s) (λ q m. let c = Memᴰ-of_map (at g) (pairs_of p source) m in Memᴰ-cast (sym c.2) (image_in c.0 c.1)))
            (P.within_i (pairs_of p s) (map (at g) (pairs_of p source)) image_on)

pub preimage : (p : Problem) → WellFormed p → Respected p → (g : List ℕ) → Memᴰ g p.symmetries → (s : List ℕ) → T (is_solution p s) → (t : List ℕ) × T (is_solution p t) × T (takes p g t s)
preimage p w r g m s sol =
    let good = w.symmetric g m in
    let respectful = r.respectful g m in
    (source p w g good respectful s sol, source_solution p w g good respectful s sol, source_takes p w g good respectful s sol)
