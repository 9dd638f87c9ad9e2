-- Where two prefixes differ and their sets settle the images of their own pairs, a symmetry takes each one's own pairs there among themselves; so it takes
-- no pair of another variable to one of these. This is what needs question 16. Assumes nothing.
use Rattle.model.specs.Kit.{◌≡◌, refl, sym, ap, ap₂, ◌∙◌, subst, Bool, true, false, ◌⊎◌, inl, inr, ⊎_elim, List, [], ◌∷◌, map, Memᴰ, Memᴰ-head, Memᴰ-tail, Memᴰ-cases_cons}
use Rattle.model.specs.Kit.{Memᴰ-map, Memᴰ-of_map, ℕ, ◌/◌, ◌%◌, ◌^◌, ◌≤◌, ◌<◌, dec_lt, ℕ_discrete, arith, lt_of_lt_of_le, T, eqb, ltb, length, length-map, eqb-true, eqb-false}
use Rattle.model.specs.{Lists.both, Lists.any, Lists.keep, Lists.below, Lists.at, Lists.same, ValueSets.has, ValueSets.members, Problem.Problem, Problem.Constraint, Problem.pair, Problem.pairs_at}
use Rattle.model.specs.{Problem.doubled, Problem.excluded, Problem.forbidden, Nogood.Entry, Nogood.equality, Nogood.disequality, Search.entries_at, Search.nogoods_of, Search.row_with, Search.sets_at}
use Rattle.model.specs.{Search.is_live, Claims.Drawn, Claims.Consistent, Inner.WellFormed.WellFormed, Inner.WellFormed.GoodSymmetry}
use mathlib.Core.List.Memᴰ
use Rattle.model.specs.Inner.WellFormed.{Respected}
use Rattle.model.proofs.Lists.{both_l, both_r, any_i, any_e, flat_i, flat_e, below_i, below_e, at_mem, mem_at, at_map, same_refl, length_below, never}
use Rattle.model.proofs.{Counting.onto, Counting.distinct_below, Assignments.drawn_e, Prune.Sized, Consistent.live_consistent, Tree.well_sized}
use Rattle.run_alike.specs.Inner.Alike.{Residue, residue}
use Rattle.run_alike.proofs.{Sets.own_value, Sets.own_set, Residue.single, Residue.single_has, Residue.kept_e, Residue.held_e}
use Rattle.model.proofs.Pairs as P
use Rattle.model.proofs.Symmetry as S

-- ---- forbidden sets and consistent sets
module _ (p : Problem) (w : WellFormed p) (prefix ds : List ℕ) (cons : Consistent (λ x. x) p prefix ds) where
  -- the pair's value is the only one that the sets leave its variable
  abbrev pub Sole : ℕ → Type 0
  Sole q = at ds (q / p.values) ≡ 2 ^ (q % p.values)

  sole_at : (x v : ℕ) → v < p.values → Sole (pair p x v) → at ds x ≡ 2 ^ v
  sole_at x v l e = ap (at ds) (sym (P.pair_div p x v l)) ∙ e ∙ ap (λ (u : ℕ). 2 ^ u) (P.pair_mod p x v l)

  row_sole : (x v : ℕ) (ys vs ws : List ℕ) → length vs ≡ length ys → ((u : ℕ) → Memᴰ u vs → u < p.values) → ((q : ℕ) → Memᴰ q (pairs_at p ys vs) → Sole q) →
      T (row_with ds x v ys ws) → ws ≡ vs
  unfolding row_with pairs_at
  row_sole x v [] [] [] e l f t = refl
  row_sole x v [] [] (u ∷ ws) e l f t = absurd t
  row_sole x v [] (u ∷ vs) ws e l f t = absurd (omega arith)
  row_sole x v (y ∷ ys) [] ws e l f t = absurd (omega arith)
  row_sole x v (y ∷ ys) (u ∷ vs) [] e l f t = absurd t
  row_sole x v (y ∷ ys) (u ∷ vs) (z ∷ ws) e l f t =
      let q : Bool = elim (eqb x y) [ true ↦ eqb v z | false ↦ true ] in
      ap₂ (λ (j : ℕ) (r : List ℕ). j ∷ r) (single (at ds y) z u (sole_at y u (l u (Memᴰ-head refl)) (f (pair p y u) (Memᴰ-head refl))) (both_l (has (at ds y) z)
      (both q (row_with ds x v ys ws)) t))
      (row_sole x v ys vs ws (omega arith) (λ j m. l j (Memᴰ-tail m)) (λ j m. f j (Memᴰ-tail m)) (both_r q (row_with ds x v ys ws) (both_r (has (at ds y) z)
      (both q (row_with ds x v ys ws)) t)))

  first_sole : (ys vs : List ℕ) → 1 ≤ length ys → length vs ≡ length ys → ((u : ℕ) → Memᴰ u vs → u < p.values) → ((q : ℕ) → Memᴰ q (pairs_at p ys vs) → Sole q) →
      (y : ℕ) × (u : ℕ) × Memᴰ y ys × T (has (at ds y) u)
  unfolding pairs_at
  first_sole [] vs n e l f = absurd (omega arith)
  first_sole (y ∷ ys) [] n e l f = absurd (omega arith)
  first_sole (y ∷ ys) (u ∷ vs) n e l f = (y, u, Memᴰ-head refl, single_has (at ds y) u (sole_at y u (l u (Memᴰ-head refl)) (f (pair p y u) (Memᴰ-head refl))))

  no_doubled : (x : ℕ) (h : List ℕ) → x < p.variables → Memᴰ h (doubled p x) → ((q : ℕ) → Memᴰ q h → Sole q) → ⊥
  no_doubled x h l m f =
      let r = P.doubled_e p x h m in
      let v = r.0 in
      let u = r.1 in
      let j : (q : ℕ) → Memᴰ q (pair p x v ∷ pair p x u ∷ []) → Sole q = λ q i. f q (subst (Memᴰ q) (sym r.5) i) in
      let ev = sole_at x v (P.init_lt p w.narrow x v l r.2) (j (pair p x v) (Memᴰ-head refl)) in
      let eu = sole_at x u (P.init_lt p w.narrow x u l r.3) (j (pair p x u) (Memᴰ-tail (Memᴰ-head refl))) in
      let e : u ≡ v = single (at ds x) u v ev (single_has (at ds x) u eu) in
      omega (arith, r.4)

  module _ (c : Constraint) (l : Memᴰ c p.constraints) (vs : List ℕ) (d : Drawn (map (at p.initial) c.scope) vs) where
    long : length vs ≡ length c.scope
    long = d.0 ∙ length-map c.scope (at p.initial)

    bound : (u : ℕ) → Memᴰ u vs → u < p.values
    bound u i =
        let o = at_mem vs u i in
        let k : o.0 < length c.scope = subst (λ (n : ℕ). o.0 < n) long o.1 in
        let x = at c.scope o.0 in
        P.init_lt p w.narrow x u ((w.constrained c l).inside x (mem_at c.scope o.0 k))
        (subst (λ (v : ℕ). T (has (at p.initial x) v)) o.2 (subst (λ (s : ℕ). T (has s (at vs o.0))) (at_map (at p.initial) c.scope o.0 k)
        (d.1 o.0 (subst (λ (n : ℕ). o.0 < n) d.0 o.1))))

    -- they are a row of the constraint
    is_row : ((q : ℕ) → Memᴰ q (pairs_at p c.scope vs) → Sole q) → T (any (same vs) c.rows)
    is_row f =
        let o = first_sole c.scope vs (w.constrained c l).some long bound f in
        let t = any_e (row_with ds o.0 o.1 c.scope) c.rows (cons.rows c l o.0 o.1 o.2 o.3) in
        any_i (same vs) c.rows t.0 t.1 (subst (λ (r : List ℕ). T (same vs r)) (sym (row_sole o.0 o.1 c.scope vs t.0 long bound f t.2)) (same_refl vs))

  no_excluded : (c : Constraint) (h : List ℕ) → Memᴰ c p.constraints → Memᴰ h (excluded p c) → ((q : ℕ) → Memᴰ q h → Sole q) → ⊥
  no_excluded c h l m f =
      let r = P.excluded_e p c h m in
      r.2 (is_row c l r.0 (drawn_e (map (at p.initial) c.scope) r.0 r.1) (λ q i. f q (subst (Memᴰ q) (sym r.3) i)))

  pub no_forbidden : (h : List ℕ) → Memᴰ h (forbidden p) → ((q : ℕ) → Memᴰ q h → Sole q) → ⊥
  no_forbidden h m f = ⊎_elim {C = ⊥} (λ k. no_doubled k.0 h k.1 k.2 f) (λ k. no_excluded k.0 h k.1 k.2 f) (P.forbidden_e p h m)

-- ---- the equalities of a list
module _ (p : Problem) (g c : List ℕ) where
  abbrev own : ℕ → ℕ
  own x = at g (pair p x (at c x))

  pub own_in : (x : ℕ) → x < length c → Memᴰ (equality (own x / p.values) (own x % p.values)) (nogoods_of p g c)
  unfolding nogoods_of entries_at
  own_in x l =
      flat_i (map (entries_at p g c) (below (length c))) (entries_at p g c x) (equality (own x / p.values) (own x % p.values)) (Memᴰ-map (entries_at p g c) (below_i (length c) x l))
      (Memᴰ.append_right (map (λ v. disequality (at g (pair p x v) / p.values) (at g (pair p x v) % p.values)) (keep (λ v. ltb v (at c x)) (members (at p.initial x)))) (Memᴰ-head refl))

  pub own_out : (y u : ℕ) → Memᴰ (equality y u) (nogoods_of p g c) → (x : ℕ) × (x < length c) × (y ≡ own x / p.values) × (u ≡ own x % p.values)
  unfolding nogoods_of entries_at
  own_out y u m =
      let r = flat_e (map (entries_at p g c) (below (length c))) (equality y u) m in
      let q = Memᴰ-of_map (entries_at p g c) (below (length c)) r.1 in
      let x = q.0 in
      let i : Memᴰ (equality y u) (entries_at p g c x) = subst (λ (l : List Entry). Memᴰ (equality y u) l) (sym q.2) r.2 in
      let D : List Entry = map (λ v. disequality (at g (pair p x v) / p.values) (at g (pair p x v) % p.values)) (keep (λ v. ltb v (at c x)) (members (at p.initial x))) in
      let e : equality y u ≡ equality (own x / p.values) (own x % p.values) =
      ⊎_elim {C = equality y u ≡ equality (own x / p.values) (own x % p.values)}
      (λ j. let o = Memᴰ-of_map (λ v. disequality (at g (pair p x v) / p.values) (at g (pair p x v) % p.values)) (keep (λ v. ltb v (at c x)) (members (at p.initial x))) j in absurd
      (apart _ _ y u o.2))
      (λ j. Memᴰ.eq_of_singleton j) (Memᴰ.append_cases D i) in
      (x, below_e (length c) x q.1, one y u _ _ e, two y u _ _ e)
    where
      apart : (x v y u : ℕ) → disequality x v ≡ equality y u → ⊥
      apart x v y u e = never (cc)

      one : (x v y u : ℕ) → equality x v ≡ equality y u → x ≡ y
      one x v y u e = cc

      two : (x v y u : ℕ) → equality x v ≡ equality y u → v ≡ u
      two x v y u e = cc

-- ---- two prefixes and a symmetry
module _ (p : Problem) (w : WellFormed p) (g : List ℕ) (gm : Memᴰ g p.symmetries) where
  abbrev good : GoodSymmetry p g
  good = w.symmetric g gm

  z : Sized p
  z = well_sized p w

  abbrev width : ℕ
  width = p.values

  abbrev pub image : ℕ → ℕ → ℕ
  image x v = at g (pair p x v)

  same_image : (q r : ℕ) → q / width ≡ r / width → q % width ≡ r % width → q ≡ r
  same_image q r d m = sym (P.pair_of p q) ∙ ap₂ (pair p) d m ∙ P.pair_of p r

  pub own_init : (c : List ℕ) → T (is_live p c) → (x : ℕ) → x < length c → x < p.variables → T (has (at p.initial x) (at c x))
  own_init c live x l n = (live_consistent p c z live).inside x (at c x) (own_value p z c live x l n)

  -- the symmetry takes no two pairs to one
  pub one_pair : (x v y u : ℕ) → x < p.variables → y < p.variables → T (has (at p.initial x) v) → T (has (at p.initial y) u) → image x v ≡ image y u → (x ≡ y) × (v ≡ u)
  one_pair x v y u lx ly hv hu e =
      let bv = P.init_lt p w.narrow x v lx hv in
      let bu = P.init_lt p w.narrow y u ly hu in
      let q = S.injective p w g good (pair p x v) (pair p y u) (P.pair_lt p x v lx bv) (P.pair_lt p y u ly bu) e in
      (P.pair_first p x v y u bv bu q, P.pair_second p x v y u bv bu q)

  -- where they differ, the sets of the one settle the image of its own pair
  abbrev pub Settles : List ℕ → List ℕ → Type 0
  Settles a b = (x : ℕ) → x < length a → (at a x ≡ at b x → ⊥) → at (sets_at p a) (image x (at a x) / width) ≡ 2 ^ (image x (at a x) % width)

  -- so it is where the lists are left alike, and not ended
  pub decided : (a b : List ℕ) → T (is_live p a) → T (is_live p b) → length a ≡ length b → residue (sets_at p a) (nogoods_of p g a) ≡ residue (sets_at p b) (nogoods_of p g b) →
      length a ≤ p.variables → (residue (sets_at p a) (nogoods_of p g a)).stopped ≡ false → Settles a b
  decided a b la lb sized left short going x l n =
      ⊎_elim {C = at (sets_at p a) (image x (at a x) / width) ≡ 2 ^ (image x (at a x) % width)} (λ e. e)
      (λ i. let k = kept_e (sets_at p b) (nogoods_of p g b) _ (subst (λ (r : Residue). Memᴰ (equality (image x (at a x) / width) (image x (at a x) % width)) r.kept) left i) in
      let o = own_out p g b (image x (at a x) / width) (image x (at a x) % width) k.0 in
      let lo : o.0 < p.variables = omega (arith, o.1, sized) in
      let q = one_pair x (at a x) o.0 (at b o.0) (omega arith) lo (own_init a la x l (omega arith)) (own_init b lb o.0 o.1 lo) (same_image _ _ o.2 o.3) in
      absurd (n (q.1 ∙ ap (at b) (sym q.0))))
      (held_e (sets_at p a) (nogoods_of p g a) going (image x (at a x) / width) (image x (at a x) % width) (own_in p g a x l))

  module _ (r : Respected p) (a b : List ℕ) (la : T (is_live p a)) (lb : T (is_live p b)) (sized : length a ≡ length b)
      (later : (x : ℕ) → length a ≤ x → at (sets_at p a) x ≡ at (sets_at p b) x) (short : length a ≤ p.variables) (sa : Settles a b) (sb : Settles b a) where
    abbrev k : ℕ
    k = length a

    decided_b : (x : ℕ) → x < k → (at a x ≡ at b x → ⊥) → at (sets_at p b) (image x (at b x) / width) ≡ 2 ^ (image x (at b x) % width)
    decided_b x l n = sb x (omega arith) (λ e. n (sym e))

    init_a : (x : ℕ) → x < k → T (has (at p.initial x) (at a x))
    init_a x l = own_init a la x l (omega arith)

    init_b : (x : ℕ) → x < k → T (has (at p.initial x) (at b x))
    init_b x l = own_init b lb x (omega arith) (omega arith)

    -- b's sets do not settle the image of a's pair
    clash : (x : ℕ) → x < k → (at a x ≡ at b x → ⊥) → at (sets_at p b) (image x (at a x) / width) ≡ 2 ^ (image x (at a x) % width) → ⊥
    clash x l n e = go (dec_lt (at a x) (at b x))
      where
        lx : x < p.variables
        lx = omega arith

        small : (v : ℕ) → T (has (at p.initial x) v) → v < 16
        small v t = lt_of_lt_of_le (P.init_lt p w.narrow x v lx t) w.sixteen

        by : (v u : ℕ) → v < u → T (has (at p.initial x) v) → T (has (at p.initial x) u) → at (sets_at p b) (image x v / width) ≡ 2 ^ (image x v % width) → at (sets_at p b)
            (image x u / width) ≡ 2 ^ (image x u % width) → ⊥
        by v u o tv tu ev eu =
            let f : List ℕ = pair p x v ∷ pair p x u ∷ [] in
            let s = S.respected p w g good (r.respectful g gm) f (P.forbidden_doubled p x f lx (P.doubled_i p x v u o (small u tu) tv tu)) in
            no_forbidden p w b (sets_at p b) (live_consistent p b z lb) s.0 s.1
            (λ q i. let t = Memᴰ-of_map (at g) f (s.2 q i) in
            subst (λ (j : ℕ). at (sets_at p b) (j / width) ≡ 2 ^ (j % width)) t.2
            (⊎_elim {C = at (sets_at p b) (at g t.0 / width) ≡ 2 ^ (at g t.0 % width)}
            (λ d. subst (λ (j : ℕ). at (sets_at p b) (at g j / width) ≡ 2 ^ (at g j % width)) (sym d) ev)
            (λ d. subst (λ (j : ℕ). at (sets_at p b) (at g j / width) ≡ 2 ^ (at g j % width)) (sym (Memᴰ.eq_of_singleton d)) eu) (Memᴰ-cases_cons t.1)))

        go : Dec (at a x < at b x) → ⊥
        go (yes o) = by (at a x) (at b x) o (init_a x l) (init_b x l) e (decided_b x l n)
        go (no o) = by (at b x) (at a x) (other (ℕ_discrete (at a x) (at b x))) (init_b x l) (init_a x l) (decided_b x l n) e
          where
            other : Dec (at a x ≡ at b x) → at b x < at a x
            other (yes q) = absurd (n q)
            other (no q) = omega arith

    -- so it is a's pair at another variable at which they differ
    among : (x : ℕ) → x < k → (at a x ≡ at b x → ⊥) → let y = image x (at a x) / width in (y < k) × (at a y ≡ at b y → ⊥) × (image x (at a x) ≡ pair p y (at a y))
    among x l n = go (dec_lt y k)
      where
        y : ℕ
        y = image x (at a x) / width

        u : ℕ
        u = image x (at a x) % width

        ly : y < p.variables
        ly = P.is_pair_var p w (image x (at a x)) (S.to_pair p w g good (pair p x (at a x)) (P.is_pair_i p w.narrow x (at a x) (omega arith) (init_a x l)))

        e : at (sets_at p a) y ≡ 2 ^ u
        e = sa x l n

        not_b : at (sets_at p b) y ≡ 2 ^ u → ⊥
        not_b q = clash x l n q

        go : Dec (y < k) → (y < k) × (at a y ≡ at b y → ⊥) × (image x (at a x) ≡ pair p y (at a y))
        go (no o) = absurd (not_b (sym (later y (omega arith)) ∙ e))
        go (yes o) =
            let s = own_set p z a la y o ly in
            let q : at a y ≡ u = single (at (sets_at p a) y) (at a y) u e (own_value p z a la y o ly) in
            (o, λ d. not_b (own_set p z b lb y (omega arith) ly ∙ ap (λ (v : ℕ). 2 ^ v) (sym d ∙ q)), sym (P.pair_of p (image x (at a x))) ∙ ap (pair p y) (sym q))

    -- one step along a's pairs, at the variables where they differ
    step : ℕ → ℕ
    step x = elim (eqb (at a x) (at b x)) [ true ↦ x | false ↦ image x (at a x) / width ]

    abbrev Stays : ℕ → Type 0
    Stays x = ((at a x ≡ at b x) × (step x ≡ x)) ⊎ ((at a x ≡ at b x → ⊥) × (step x ≡ image x (at a x) / width))

    stepped : (x : ℕ) → Stays x
    unfolding step
    stepped x = go (eqb (at a x) (at b x)) refl
      where
        go : (c : Bool) → eqb (at a x) (at b x) ≡ c → ((at a x ≡ at b x) × (elim c [ true ↦ x | false ↦ image x (at a x) / width ] ≡ x)) ⊎
            ((at a x ≡ at b x → ⊥) × (elim c [ true ↦ x | false ↦ image x (at a x) / width ] ≡ image x (at a x) / width))
        go true e = inl (eqb-true (at a x) (at b x) e, refl)
        go false e = inr (eqb-false (at a x) (at b x) e, refl)

    step_lt : (x : ℕ) → x < k → step x < k
    step_lt x l = go (stepped x)
      where
        go : Stays x → step x < k
        go (inl o) = subst (λ (y : ℕ). y < k) (sym o.1) l
        go (inr o) = subst (λ (y : ℕ). y < k) (sym o.1) (among x l o.0).0

    step_one : (x y : ℕ) → x < k → y < k → step x ≡ step y → x ≡ y
    step_one x y lx ly e = go (stepped x) (stepped y)
      where
        go : Stays x → Stays y → x ≡ y
        go (inl o) (inl o') = sym o.1 ∙ e ∙ o'.1
        go (inl o) (inr o') = let q : x ≡ image y (at a y) / width = sym o.1 ∙ e ∙ o'.1 in absurd ((among y ly o'.0).1 (subst (λ (j : ℕ). at a j ≡ at b j) q o.0))
        go (inr o) (inl o') = let q : y ≡ image x (at a x) / width = sym o'.1 ∙ sym e ∙ o.1 in absurd ((among x lx o.0).1 (subst (λ (j : ℕ). at a j ≡ at b j) q o'.0))
        go (inr o) (inr o') =
            let q : image x (at a x) / width ≡ image y (at a y) / width = sym o.1 ∙ e ∙ o'.1 in
            (one_pair x (at a x) y (at a y) (omega arith) (omega arith) (init_a x lx) (init_a y ly)
            ((among x lx o.0).2 ∙ ap (λ (j : ℕ). pair p j (at a j)) q ∙ sym (among y ly o'.0).2)).0

    -- each of these pairs is the image of one of them
    hit : (y : ℕ) → y < k → (at a y ≡ at b y → ⊥) → (x : ℕ) × (x < k) × (at a x ≡ at b x → ⊥) × (image x (at a x) ≡ pair p y (at a y))
    hit y l n =
        let m = onto (map step (below k)) k (length_below step k) (distinct_below step k step_one)
        (λ x i. let o = Memᴰ-of_map step (below k) i in subst (λ (j : ℕ). j < k) o.2 (step_lt o.0 (below_e k o.0 o.1))) y l in
        let o = Memᴰ-of_map step (below k) m in
        go o.0 (below_e k o.0 o.1) o.2 (stepped o.0)
      where
        go : (x : ℕ) → x < k → step x ≡ y → Stays x → (x : ℕ) × (x < k) × (at a x ≡ at b x → ⊥) × (image x (at a x) ≡ pair p y (at a y))
        go x i e (inl o) = absurd (n (subst (λ (j : ℕ). at a j ≡ at b j) (sym o.1 ∙ e) o.0))
        go x i e (inr o) = (x, i, o.0, (among x i o.0).2 ∙ ap (λ (j : ℕ). pair p j (at a j)) (sym o.1 ∙ e))

    -- and so not of a pair of another variable, left or one at which they agree
    pub not_elsewhere : (j u : ℕ) → (j < k → at a j ≡ at b j) → j < p.variables → T (has (at p.initial j) u) →
        let x = image j u / width in x < k → (at a x ≡ at b x → ⊥) → at a x ≡ image j u % width → ⊥
    not_elsewhere j u s lj t lx n e =
        let x = image j u / width in
        let o = hit x lx n in
        let lo : o.0 < p.variables = omega (arith, o.1) in
        let q : image o.0 (at a o.0) ≡ image j u = o.3 ∙ ap (pair p x) e ∙ P.pair_of p (image j u) in
        let d : o.0 ≡ j = (one_pair o.0 (at a o.0) j u lo lj (init_a o.0 o.1) t q).0 in
        o.2 (subst (λ (y : ℕ). at a y ≡ at b y) (sym d) (s (omega (arith, o.1))))
