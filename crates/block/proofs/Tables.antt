-- Symmetry tables: two that pass questions 15 and 16 do so one after the other, and a table that moves nothing passes; tables that move variables. Assumes nothing.
use Rattle.model.specs.Kit.{◌≡◌, refl, sym, ap, ap₂, ◌∙◌, subst, Bool, true, false, List, [], ◌∷◌, map, Memᴰ, Memᴰ-head, Memᴰ-tail, Memᴰ-not_nil, Memᴰ-cases_cons, Memᴰ-cast}
use Rattle.model.specs.Kit.{Memᴰ-map, Memᴰ-of_map, ◌⊎◌, inl, inr, ⊎_elim, ℕ, suc, ◌*◌, ◌/◌, ◌%◌, ◌<◌, arith, T, eqb, eqb_refl, length}
use Rattle.model.specs.Problem.{Problem, Constraint, pair, is_pair, pairs_at, within, doubled, excluded, forbidden, respects}
use Rattle.model.specs.{Lists.all, Lists.any, Lists.below, Lists.at, ValueSets.has, Sheet.distinct, Sheet.permutes_pairs, Claims.Drawn, Inner.WellFormed.WellFormed, Inner.WellFormed.GoodSymmetry}
use mathlib.Core.List.Memᴰ
use Rattle.block.specs.Block.{composed, variable_table}
use Rattle.model.proofs.{Lists.both_i, Lists.TDec, Lists.of_T, Lists.not_of, Lists.all_i, Lists.any_i, Lists.below_e, Lists.length_below, Lists.at_below, Lists.at_ext, Assignments.drawn_e}
use Rattle.order.proofs.Reordered.{apart_distinct}
use Rattle.block.proofs.Orderings.{at_composed, length_composed}
use Rattle.model.proofs.Pairs as P
use Rattle.model.proofs.Symmetry as S

pub choose_yes : {A : Type 0} (b : Bool) (x y : A) → b ≡ true → elim b [ true ↦ x | false ↦ y ] ≡ x
choose_yes true x y e = refl
choose_yes false x y e = absurd (subst T (sym e) tt)

pub choose_no : {A : Type 0} (b : Bool) (x y : A) → b ≡ false → elim b [ true ↦ x | false ↦ y ] ≡ y
choose_no true x y e = absurd (subst T e tt)
choose_no false x y e = refl

-- a table that passes questions 15 and 16
pub record Passes (p : Problem) (g : List ℕ) : Type 0 where
  pub good : GoodSymmetry p g
  pub respectful : T (respects p g)

module _ (p : Problem) where
  abbrev pub size : ℕ
  size = p.variables * p.values

  -- question 15 in three parts
  pub record Permutes (g : List ℕ) : Type 0 where
    pub pairs : (q : ℕ) → T (is_pair p q) → T (is_pair p (at g q))
    pub others : (q : ℕ) → q < size → (T (is_pair p q) → ⊥) → at g q ≡ q
    pub different : (i j : ℕ) → i < size → j < size → at g i ≡ at g j → i ≡ j

  abbrev rightly : List ℕ → ℕ → Bool
  rightly g q = elim (is_pair p q) [ true ↦ is_pair p (at g q) | false ↦ eqb (at g q) q ]

  pub permutes_i : (g : List ℕ) → length g ≡ size → Permutes g → T (permutes_pairs p g)
  unfolding permutes_pairs
  permutes_i g n o =
      both_i (all (rightly g) (below size)) (distinct g) (all_i (rightly g) (below size) (λ q m. each q (below_e size q m) (TDec (is_pair p q))))
      (apart_distinct g (λ i j h k. o.different i j (omega arith) (omega arith)))
    where
      each : (q : ℕ) → q < size → T (is_pair p q) ⊎ (T (is_pair p q) → ⊥) → T (rightly g q)
      each q h (inl t) = subst T (sym (choose_yes (is_pair p q) (is_pair p (at g q)) (eqb (at g q) q) (of_T (is_pair p q) t))) (o.pairs q t)
      each q h (inr t) =
          subst T (sym (choose_no (is_pair p q) (is_pair p (at g q)) (eqb (at g q) q) (not_of (is_pair p q) t)))
          (subst (λ (k : ℕ). T (eqb k q)) (sym (o.others q h t)) (eqb_refl q))

  module _ (w : WellFormed p) where
    -- a forbidden set holds pairs only
    scope_pair : (xs vs : List ℕ) → ((x : ℕ) → Memᴰ x xs → x < p.variables) → Drawn (map (at p.initial) xs) vs → (q : ℕ) → Memᴰ q (pairs_at p xs vs) → T (is_pair p q)
    unfolding pairs_at at
    scope_pair [] vs l d q m = absurd (Memᴰ-not_nil m)
    scope_pair (x ∷ xs) [] l d q m = absurd (Memᴰ-not_nil m)
    scope_pair (x ∷ xs) (v ∷ vs) l d q m =
        ⊎_elim {C = T (is_pair p q)} (λ e. subst (λ (k : ℕ). T (is_pair p k)) (sym e) (P.is_pair_i p w.narrow x v (l x (Memᴰ-head refl)) (d.1 0 (omega arith))))
        (scope_pair xs vs (λ y k. l y (Memᴰ-tail k)) (omega (arith, d.0), λ j h. d.1 (suc j) (omega arith)) q) (Memᴰ-cases_cons m)

    pub forbidden_pair : (f : List ℕ) → Memᴰ f (forbidden p) → (q : ℕ) → Memᴰ q f → T (is_pair p q)
    forbidden_pair f m q k = ⊎_elim {C = T (is_pair p q)} in_doubled in_excluded (P.forbidden_e p f m)
      where
        in_doubled : (x : ℕ) × (x < p.variables) × Memᴰ f (doubled p x) → T (is_pair p q)
        in_doubled (x, l, i) =
            let r = P.doubled_e p x f i in
            ⊎_elim {C = T (is_pair p q)} (λ e. subst (λ (j : ℕ). T (is_pair p j)) (sym e) (P.is_pair_i p w.narrow x r.0 l r.2))
            (λ j. subst (λ (j : ℕ). T (is_pair p j)) (sym (Memᴰ.eq_of_singleton j)) (P.is_pair_i p w.narrow x r.1 l r.3))
            (Memᴰ-cases_cons (subst (Memᴰ q) r.5 k))

        in_excluded : (c : Constraint) × Memᴰ c p.constraints × Memᴰ f (excluded p c) → T (is_pair p q)
        in_excluded (c, l, i) =
            let r = P.excluded_e p c f i in
            scope_pair c.scope r.0 (w.constrained c l).inside (drawn_e (map (at p.initial) c.scope) r.0 r.1) q (subst (Memᴰ q) r.3 k)

    -- question 16
    pub respects_i : (g : List ℕ) → ((f : List ℕ) → Memᴰ f (forbidden p) → (h : List ℕ) × Memᴰ h (forbidden p) × ((q : ℕ) → Memᴰ q h → (r : ℕ) × Memᴰ r f × (at g r ≡ q))) → T
        (respects p g)
    unfolding respects
    respects_i g each =
        all_i (λ f. any (λ h. within h (map (at g) f)) (forbidden p)) (forbidden p)
        (λ f m. let r = each f m in
        any_i (λ h. within h (map (at g) f)) (forbidden p) r.0 r.1
        (P.within_i r.0 (map (at g) f) (λ q k. let z = r.2 q k in Memᴰ-cast (sym z.2) (Memᴰ-map (at g) z.1))))

    -- ---- one after the other
    module _ (g h : List ℕ) (a : GoodSymmetry p g) where
      step : (q : ℕ) → q < size → at (composed g h) q ≡ at h (at g q)
      step q l = at_composed g h q (subst (λ (k : ℕ). q < k) (sym a.sized) l)

      pub good_composed : GoodSymmetry p h → GoodSymmetry p (composed g h)
      good_composed b =
          let sized : length (composed g h) ≡ size = length_composed g h ∙ a.sized in
          record {
            sized = sized;
            permutes = permutes_i (composed g h) sized record {
              pairs = λ q i. subst (λ (r : ℕ). T (is_pair p r)) (sym (step q (P.is_pair_lt p q i))) (S.to_pair p w h b (at g q) (S.to_pair p w g a q i));
              others = λ q l i. step q l ∙ ap (at h) (S.to_self p w g a q l i) ∙ S.to_self p w h b q l i;
              different = λ i j k l e.
                  S.injective p w g a i j k l (S.injective p w h b (at g i) (at g j) (S.image_lt p w g a i k) (S.image_lt p w g a j l) (sym (step i k) ∙ e ∙ step j l));
            };
          }

      respects_composed : T (respects p g) → GoodSymmetry p h → T (respects p h) → T (respects p (composed g h))
      respects_composed s b t =
          respects_i (composed g h)
          (λ f m.
          let c = S.respected p w g a s f m in
          let d = S.respected p w h b t c.0 c.1 in (
            d.0,
            d.1,
            λ q k.
                let y = Memᴰ-of_map (at h) c.0 (d.2 q k) in
                let x = Memᴰ-of_map (at g) f (c.2 y.0 y.1) in
                (x.0, x.1, step x.0 (P.is_pair_lt p x.0 (forbidden_pair f m x.0 x.1)) ∙ ap (at h) x.2 ∙ y.2),
          ))

    pub passes_composed : (g h : List ℕ) → Passes p g → Passes p h → Passes p (composed g h)
    passes_composed g h a b = record { good = good_composed g h a.good b.good; respectful = respects_composed g h a.good a.respectful b.good b.respectful }

    -- a table that moves nothing
    pub passes_still : (g : List ℕ) → length g ≡ size → ((q : ℕ) → q < size → at g q ≡ q) → Passes p g
    passes_still g n e = record {
      good = record {
        sized = n;
        permutes = permutes_i g n record {
          pairs = λ q t. subst (λ (k : ℕ). T (is_pair p k)) (sym (e q (P.is_pair_lt p q t))) t;
          others = λ q l t. e q l;
          different = λ i j a b q. sym (e i a) ∙ q ∙ e j b;
        };
      };
      respectful = respects_i g (λ f m. (f, m, λ q k. (q, k, e q (P.is_pair_lt p q (forbidden_pair f m q k)))));
    }

    -- ---- tables that move variables
    abbrev image_under : (ℕ → ℕ) → ℕ → ℕ
    image_under f q = elim (is_pair p q) [ true ↦ pair p (f (q / p.values)) (q % p.values) | false ↦ q ]

    pub length_variable_table : (f : ℕ → ℕ) → length (variable_table p f) ≡ size
    unfolding variable_table
    length_variable_table f = length_below (image_under f) size

    at_variable_table : (f : ℕ → ℕ) (q : ℕ) → q < size → at (variable_table p f) q ≡ image_under f q
    unfolding variable_table
    at_variable_table f q h = at_below (image_under f) size q h

    pub moved_pair : (f : ℕ → ℕ) (q : ℕ) → T (is_pair p q) → at (variable_table p f) q ≡ pair p (f (q / p.values)) (q % p.values)
    moved_pair f q t = at_variable_table f q (P.is_pair_lt p q t) ∙ choose_yes (is_pair p q) (pair p (f (q / p.values)) (q % p.values)) q (of_T (is_pair p q) t)

    pub unmoved : (f : ℕ → ℕ) (q : ℕ) → q < size → (T (is_pair p q) → ⊥) → at (variable_table p f) q ≡ q
    unmoved f q h t = at_variable_table f q h ∙ choose_no (is_pair p q) (pair p (f (q / p.values)) (q % p.values)) q (not_of (is_pair p q) t)

    -- (x, v) goes to (f x, v)
    pub moved : (f : ℕ → ℕ) (x v : ℕ) → x < p.variables → T (has (at p.initial x) v) → at (variable_table p f) (pair p x v) ≡ pair p (f x) v
    moved f x v h t =
        let l = P.init_lt p w.narrow x v h t in
        moved_pair f (pair p x v) (P.is_pair_i p w.narrow x v h t) ∙ ap₂ (λ (y u : ℕ). pair p (f y) u) (P.pair_div p x v l) (P.pair_mod p x v l)

    pub variable_table_ext : (f g : ℕ → ℕ) → ((x : ℕ) → x < p.variables → f x ≡ g x) → variable_table p f ≡ variable_table p g
    variable_table_ext f g e =
        at_ext (variable_table p f) (variable_table p g) (length_variable_table f ∙ sym (length_variable_table g))
        (λ q h. each q (subst (λ (k : ℕ). q < k) (length_variable_table f) h) (TDec (is_pair p q)))
      where
        each : (q : ℕ) → q < size → T (is_pair p q) ⊎ (T (is_pair p q) → ⊥) → at (variable_table p f) q ≡ at (variable_table p g) q
        each q h (inl t) = moved_pair f q t ∙ ap (λ (y : ℕ). pair p y (q % p.values)) (e (q / p.values) (P.is_pair_var p w q t)) ∙ sym (moved_pair g q t)
        each q h (inr t) = unmoved f q h t ∙ sym (unmoved g q h t)

    -- a map that moves no variable passes both questions
    pub passes_unmoved : (f : ℕ → ℕ) → ((x : ℕ) → x < p.variables → f x ≡ x) → Passes p (variable_table p f)
    passes_unmoved f e = passes_still (variable_table p f) (length_variable_table f) (λ q h. each q h (TDec (is_pair p q)))
      where
        each : (q : ℕ) → q < size → T (is_pair p q) ⊎ (T (is_pair p q) → ⊥) → at (variable_table p f) q ≡ q
        each q h (inl t) = moved_pair f q t ∙ ap (λ (y : ℕ). pair p y (q % p.values)) (e (q / p.values) (P.is_pair_var p w q t)) ∙ P.pair_of p q
        each q h (inr t) = unmoved f q h t

    -- where the table of f passes question 15
    module _ (f : ℕ → ℕ) (s : T (permutes_pairs p (variable_table p f))) where
      to_pair : (q : ℕ) → T (is_pair p q) → T (is_pair p (at (variable_table p f) q))
      to_pair = S.to_pair p w (variable_table p f) record { sized = length_variable_table f; permutes = s }

      -- the initial set of x lies within that of f x
      pub moved_has : (x v : ℕ) → x < p.variables → T (has (at p.initial x) v) → T (has (at p.initial (f x)) v)
      moved_has x v h t =
          let l = P.init_lt p w.narrow x v h t in
          let k : T (is_pair p (pair p (f x) v)) = subst (λ (q : ℕ). T (is_pair p q)) (moved f x v h t) (to_pair (pair p x v) (P.is_pair_i p w.narrow x v h t)) in
          subst T (ap₂ (λ (y u : ℕ). has (at p.initial y) u) (P.pair_div p (f x) v l) (P.pair_mod p (f x) v l)) (P.is_pair_has p (pair p (f x) v) k)

      -- the table of f and then that of g is the table of f and then g
      pub variable_table_composed : (g : ℕ → ℕ) → composed (variable_table p f) (variable_table p g) ≡ variable_table p (λ x. g (f x))
      variable_table_composed g =
          at_ext (composed (variable_table p f) (variable_table p g)) (variable_table p (λ x. g (f x))) (n ∙ sym (length_variable_table (λ x. g (f x))))
          (λ q h. let l : q < size = subst (λ (k : ℕ). q < k) n h in
          at_composed (variable_table p f) (variable_table p g) q (subst (λ (k : ℕ). q < k) (sym (length_variable_table f)) l) ∙ each q l (TDec (is_pair p q)))
        where
          n : length (composed (variable_table p f) (variable_table p g)) ≡ size
          n = length_composed (variable_table p f) (variable_table p g) ∙ length_variable_table f

          each : (q : ℕ) → q < size → T (is_pair p q) ⊎ (T (is_pair p q) → ⊥) → at (variable_table p g) (at (variable_table p f) q) ≡ at (variable_table p (λ x. g (f x))) q
          each q h (inl t) =
              let x = f (q / p.values) in
              let v = q % p.values in
              let l = P.mod_small p w q in
              let k : T (is_pair p (pair p x v)) = subst (λ (r : ℕ). T (is_pair p r)) (moved_pair f q t) (to_pair q t) in
              ap (at (variable_table p g)) (moved_pair f q t) ∙ moved_pair g (pair p x v) k
              ∙ ap₂ (λ (y u : ℕ). pair p (g y) u) (P.pair_div p x v l) (P.pair_mod p x v l) ∙ sym (moved_pair (λ x. g (f x)) q t)
          each q h (inr t) = ap (at (variable_table p g)) (unmoved f q h t) ∙ unmoved g q h t ∙ sym (unmoved (λ x. g (f x)) q h t)
