-- A constraint's rows inside the sets: which values they support, what `revised` leaves, and that it leaves no more to do. Assumes nothing.
use Rattle.model.specs.Kit.{◌≡◌, refl, sym, ◌∙◌, subst, Bool, true, false, ◌⊎◌, inl, inr, List, [], ◌∷◌, Memᴰ, Memᴰ-head, Memᴰ-tail, Memᴰ-not_nil, ℕ, ◌^◌, ◌≤◌, ◌<◌, arith, T, eqb}
use Rattle.model.specs.Kit.{ltb, eqb→eq, eqb_refl, length, eqb-true, ltb-true, ltb-false}
use Rattle.model.specs.{Lists.both, Lists.any, Lists.at, ValueSets.has, ValueSets.mask_of, ValueSets.Inside, Problem.Constraint, Search.row_with, Search.supported}
use Rattle.model.specs.Inner.Pruning.{Sets}
use Rattle.model.proofs.Lists.{T_of, of_T, of_not, both_i, both_l, both_r, any_i, any_e, among_i, among_e, Sorted, at_tabulate, length_tabulate, at_out}
use Rattle.model.proofs.Sets.{has_none, has_lt, member, mask_i, mask_e, mask_lt, mask_ext, inside_antisym, has_at_lt}
use Rattle.arrays.specs.Inner.Pruning.{Fixed}
use Rattle.prune_constraints.specs.Inner.Revised.{revised}
use Rattle.model.proofs.Prune as Prune

-- ---- a row inside the sets, and its pairs of a variable and a value
abbrev pub RowIn : List ℕ → List ℕ → List ℕ → Type 0
RowIn ds [] [] = Unit {0}
RowIn ds [] (w ∷ ws) = ⊥
RowIn ds (y ∷ ys) [] = ⊥
RowIn ds (y ∷ ys) (w ∷ ws) = T (has (at ds y) w) × RowIn ds ys ws

abbrev pub PairIn : ℕ → ℕ → List ℕ → List ℕ → Type 0
PairIn x v [] ws = ⊥
PairIn x v (y ∷ ys) [] = ⊥
PairIn x v (y ∷ ys) (w ∷ ws) = ((x ≡ y) × (v ≡ w)) ⊎ PairIn x v ys ws

abbrev Ordered : List ℕ → Type 0
Ordered l = Sorted (λ (x y : ℕ). x < y) l

pub rowin_pairs : (ds es ys ws : List ℕ) → RowIn ds ys ws → ((x v : ℕ) → PairIn x v ys ws → T (has (at es x) v)) → RowIn es ys ws
rowin_pairs ds es [] [] r h = tt
rowin_pairs ds es [] (w ∷ ws) r h = r
rowin_pairs ds es (y ∷ ys) [] r h = r
rowin_pairs ds es (y ∷ ys) (w ∷ ws) r h = (h y w (inl (refl, refl)), rowin_pairs ds es ys ws r.1 (λ x v p. h x v (inr p)))

pub pair_has : (ds ys ws : List ℕ) (x v : ℕ) → RowIn ds ys ws → PairIn x v ys ws → T (has (at ds x) v)
pair_has ds [] ws x v r p = absurd p
pair_has ds (y ∷ ys) [] x v r p = absurd p
pair_has ds (y ∷ ys) (w ∷ ws) x v r (inl e) = subst (λ (z : ℕ). T (has (at ds z) v)) (sym e.0) (subst (λ (z : ℕ). T (has (at ds y) z)) (sym e.1) r.0)
pair_has ds (y ∷ ys) (w ∷ ws) x v r (inr p) = pair_has ds ys ws x v r.1 p

pub pair_mem : (ys ws : List ℕ) (x v : ℕ) → PairIn x v ys ws → Memᴰ x ys
pair_mem [] ws x v p = absurd p
pair_mem (y ∷ ys) [] x v p = absurd p
pair_mem (y ∷ ys) (w ∷ ws) x v (inl e) = Memᴰ-head e.0
pair_mem (y ∷ ys) (w ∷ ws) x v (inr p) = Memᴰ-tail (pair_mem ys ws x v p)

pub pair_at : (ds ys ws : List ℕ) (x : ℕ) → RowIn ds ys ws → Memᴰ x ys → (v : ℕ) × PairIn x v ys ws
pair_at ds [] ws x r m = absurd (Memᴰ-not_nil m)
pair_at ds (y ∷ ys) [] x r m = absurd r
pair_at ds (y ∷ ys) (w ∷ ws) x r (Memᴰ-head e) = (w, inl (e, refl))
pair_at ds (y ∷ ys) (w ∷ ws) x r (Memᴰ-tail m) = let q = pair_at ds ys ws x r.1 m in (q.0, inr q.1)

-- ---- the row with a value at a variable
abbrev asked : ℕ → ℕ → ℕ → ℕ → Bool
asked x v y w = elim (eqb x y) [ true ↦ eqb v w | false ↦ true ]

asked_i : (x v y w : ℕ) → (x ≡ y → v ≡ w) → T (asked x v y w)
asked_i x v y w h = go (eqb x y) refl
  where
    go : (b : Bool) → eqb x y ≡ b → T (elim b [ true ↦ eqb v w | false ↦ true ])
    go true e = subst (λ (z : ℕ). T (eqb v z)) (h (eqb-true x y e)) (eqb_refl v)
    go false e = tt

asked_e : (x v y w : ℕ) → T (asked x v y w) → x ≡ y → v ≡ w
asked_e x v y w t q = go (eqb x y) (of_T (eqb x y) (subst (λ (z : ℕ). T (eqb x z)) q (eqb_refl x))) t
  where
    go : (b : Bool) → b ≡ true → T (elim b [ true ↦ eqb v w | false ↦ true ]) → v ≡ w
    go true e t = eqb→eq v w t
    go false e t = absurd (subst T (sym e) tt)

module _ (ds : List ℕ) (x v : ℕ) where
  row_e : (ys ws : List ℕ) → T (row_with ds x v ys ws) → RowIn ds ys ws
  unfolding row_with
  row_e [] [] t = tt
  row_e [] (w ∷ ws) t = absurd t
  row_e (y ∷ ys) [] t = absurd t
  row_e (y ∷ ys) (w ∷ ws) t =
      let r = both_r (has (at ds y) w) (both (asked x v y w) (row_with ds x v ys ws)) t in
      (both_l (has (at ds y) w) (both (asked x v y w) (row_with ds x v ys ws)) t, row_e ys ws (both_r (asked x v y w) (row_with ds x v ys ws) r))

  row_pair : (ys ws : List ℕ) → T (row_with ds x v ys ws) → Memᴰ x ys → PairIn x v ys ws
  unfolding row_with
  row_pair [] ws t m = absurd (Memᴰ-not_nil m)
  row_pair (y ∷ ys) [] t m = absurd t
  row_pair (y ∷ ys) (w ∷ ws) t (Memᴰ-head e) =
      let r = both_r (has (at ds y) w) (both (asked x v y w) (row_with ds x v ys ws)) t in
      inl (e, asked_e x v y w (both_l (asked x v y w) (row_with ds x v ys ws) r) e)
  row_pair (y ∷ ys) (w ∷ ws) t (Memᴰ-tail m) =
      let r = both_r (has (at ds y) w) (both (asked x v y w) (row_with ds x v ys ws)) t in
      inr (row_pair ys ws (both_r (asked x v y w) (row_with ds x v ys ws) r) m)

  row_with_lem : (y w : ℕ) (ys ws : List ℕ) → T (has (at ds y) w) → (x ≡ y → v ≡ w) → T (row_with ds x v ys ws) → T (row_with ds x v (y ∷ ys) (w ∷ ws))
  unfolding row_with
  row_with_lem y w ys ws t h r = both_i (has (at ds y) w) (both (asked x v y w) (row_with ds x v ys ws)) t (both_i (asked x v y w) (row_with ds x v ys ws) (asked_i x v y w h) r)

  row_out : (ys ws : List ℕ) → (Memᴰ x ys → ⊥) → RowIn ds ys ws → T (row_with ds x v ys ws)
  unfolding row_with
  row_out [] [] n r = tt
  row_out [] (w ∷ ws) n r = absurd r
  row_out (y ∷ ys) [] n r = absurd r
  row_out (y ∷ ys) (w ∷ ws) n r = row_with_lem y w ys ws r.0 (λ e. absurd (n (Memᴰ-head e))) (row_out ys ws (λ m. n (Memᴰ-tail m)) r.1)

  row_i : (ys ws : List ℕ) → Ordered ys → RowIn ds ys ws → PairIn x v ys ws → T (row_with ds x v ys ws)
  row_i [] ws s r p = absurd p
  row_i (y ∷ ys) [] s r p = absurd p
  row_i (y ∷ ys) (w ∷ ws) s r (inl e) = row_with_lem y w ys ws r.0 (λ q. e.1) (row_out ys ws (λ m. let h = s.0 x m in omega (arith, e.0)) r.1)
  row_i (y ∷ ys) (w ∷ ws) s r (inr p) = row_with_lem y w ys ws r.0 (λ q. absurd (let h = s.0 x (pair_mem ys ws x v p) in omega arith)) (row_i ys ws s.1 r.1 p)

-- ---- the values that a constraint supports
module _ (c : Constraint) (ds : List ℕ) (x v : ℕ) where
  abbrev test : Bool → Bool
  test b = elim b [ true ↦ any (row_with ds x v c.scope) c.rows | false ↦ true ]

  pub supported_e : T (supported ds x v c) → Memᴰ x c.scope → (r : List ℕ) × Memᴰ r c.rows × RowIn ds c.scope r × PairIn x v c.scope r
  unfolding supported
  supported_e t m = go (any (eqb x) c.scope) (of_T (any (eqb x) c.scope) (among_i x c.scope m)) t
    where
      go : (b : Bool) → b ≡ true → T (test b) → (r : List ℕ) × Memᴰ r c.rows × RowIn ds c.scope r × PairIn x v c.scope r
      go true e t = let r = any_e (row_with ds x v c.scope) c.rows t in (r.0, r.1, row_e ds x v c.scope r.0 r.2, row_pair ds x v c.scope r.0 r.2 m)
      go false e t = absurd (subst T (sym e) tt)

  pub supported_i : Ordered c.scope → (r : List ℕ) → Memᴰ r c.rows → RowIn ds c.scope r → PairIn x v c.scope r → T (supported ds x v c)
  unfolding supported
  supported_i s r m i p = go (any (eqb x) c.scope)
    where
      go : (b : Bool) → T (test b)
      go true = any_i (row_with ds x v c.scope) c.rows r m (row_i ds x v c.scope r s i p)
      go false = tt

  pub supported_out : (Memᴰ x c.scope → ⊥) → T (supported ds x v c)
  unfolding supported
  supported_out n = go (any (eqb x) c.scope) refl
    where
      go : (b : Bool) → any (eqb x) c.scope ≡ b → T (test b)
      go true e = absurd (n (among_e x c.scope (T_of (any (eqb x) c.scope) e)))
      go false e = tt

-- ---- what a constraint leaves
module _ (ds : List ℕ) (c : Constraint) where
  abbrev left : ℕ → ℕ → Bool
  left x v = both (has (at ds x) v) (supported ds x v c)

  pub length_revised : length (revised ds c) ≡ length ds
  unfolding revised
  length_revised = length_tabulate (length ds) _

  at_revised : (x : ℕ) → x < length ds → at (revised ds c) x ≡ mask_of (left x)
  unfolding revised
  at_revised x h = at_tabulate (length ds) (λ y. mask_of (left y)) x h

  pub revised_e : (x v : ℕ) → T (has (at (revised ds c) x) v) → T (has (at ds x) v) × T (supported ds x v c)
  revised_e x v t =
      let l : x < length ds = subst (λ (n : ℕ). x < n) length_revised (has_at_lt (revised ds c) x v t) in
      let q = mask_e (left x) v (subst (λ (s : ℕ). T (has s v)) (at_revised x l) t) in
      (both_l (has (at ds x) v) (supported ds x v c) q.1, both_r (has (at ds x) v) (supported ds x v c) q.1)

  pub revised_i : (x v : ℕ) → v < 16 → T (has (at ds x) v) → T (supported ds x v c) → T (has (at (revised ds c) x) v)
  revised_i x v b t s = subst (λ (m : ℕ). T (has m v)) (sym (at_revised x (has_at_lt ds x v t))) (mask_i (left x) v b (both_i (has (at ds x) v) (supported ds x v c) t s))

  pub revised_sets : (n : ℕ) → length ds ≡ n → Sets n (revised ds c)
  revised_sets n e = (length_revised ∙ e, λ x. pick x (ltb x (length ds)) refl)
    where
      pick : (x : ℕ) (b : Bool) → ltb x (length ds) ≡ b → at (revised ds c) x < 2 ^ 16
      pick x true q = subst (λ (s : ℕ). s < 2 ^ 16) (sym (at_revised x (ltb-true x (length ds) q))) (mask_lt 16 _)
      pick x false q = subst (λ (s : ℕ). s < 2 ^ 16) (sym (at_out (revised ds c) x (subst (λ (m : ℕ). m ≤ x) (sym length_revised) (ltb-false x (length ds) q)))) (omega arith)

  pub revised_inside : Inside (revised ds c) ds
  revised_inside x v t = (revised_e x v t).0

  -- the sets with just the supported values
  pub revised_is : (n : ℕ) → Sets n ds → (es : List ℕ) → Sets n es → ((x v : ℕ) → T (has (at es x) v) → T (has (at ds x) v) × T (supported ds x v c)) →
      ((x v : ℕ) → T (has (at ds x) v) → T (supported ds x v c) → T (has (at es x) v)) → es ≡ revised ds c
  revised_is n s es t e i =
      inside_antisym n es (revised ds c) t (revised_sets n s.0)
      (λ x v h. let q = e x v h in revised_i x v (has_lt 16 (at ds x) v (s.1 x) q.0) q.0 q.1)
      (λ x v h. let q = revised_e x v h in i x v q.0 q.1)

  -- a row inside the sets is inside what is left, so nothing more goes
  module _ (small : (x : ℕ) → at ds x < 2 ^ 16) (s : Ordered c.scope) where
    pub row_kept : (r : List ℕ) → Memᴰ r c.rows → RowIn ds c.scope r → RowIn (revised ds c) c.scope r
    row_kept r m i =
        rowin_pairs ds (revised ds c) c.scope r i
        (λ x v p. let t = pair_has ds c.scope r x v i p in revised_i x v (has_lt 16 (at ds x) v (small x) t) t (supported_i c ds x v s r m i p))

    pub revised_fixed : Fixed (revised ds c) c
    revised_fixed x v t = go (any (eqb x) c.scope) refl
      where
        go : (b : Bool) → any (eqb x) c.scope ≡ b → T (supported (revised ds c) x v c)
        go true e =
            let r = supported_e c ds x v (revised_e x v t).1 (among_e x c.scope (T_of (any (eqb x) c.scope) e)) in
            supported_i c (revised ds c) x v s r.0 r.1 (row_kept r.0 r.1 r.2) r.3
        go false e = supported_out c (revised ds c) x v (λ m. of_not (any (eqb x) c.scope) e (among_i x c.scope m))

    -- where one variable of the scope has a value left, all have
    pub all_left : (x v y : ℕ) → Memᴰ x c.scope → Memᴰ y c.scope → T (has (at (revised ds c) x) v) → (w : ℕ) × T (has (at (revised ds c) y) w)
    all_left x v y m k t =
        let r = supported_e c ds x v (revised_e x v t).1 m in
        let i = row_kept r.0 r.1 r.2 in
        let q = pair_at (revised ds c) c.scope r.0 y i k in
        (q.0, pair_has (revised ds c) c.scope r.0 y q.0 i q.1)

  -- a variable outside the scope keeps its set
  pub revised_out : (small : (x : ℕ) → at ds x < 2 ^ 16) (x : ℕ) → (Memᴰ x c.scope → ⊥) → at (revised ds c) x ≡ at ds x
  revised_out small x n =
      mask_ext 16 (at (revised ds c) x) (at ds x) ((revised_sets (length ds) refl).1 x) (small x)
      (λ v b. Rattle.model.proofs.Lists.TExt (has (at (revised ds c) x) v) (has (at ds x) v) (λ t. (revised_e x v t).0) (λ t. revised_i x v b t (supported_out c ds x v n)))

  -- where one set of the scope is not empty, none is
  pub alive : ((x : ℕ) → at ds x < 2 ^ 16) → Ordered c.scope → (y : ℕ) → Memᴰ y c.scope → (at (revised ds c) y ≡ 0 → ⊥) → (x : ℕ) → Memᴰ x c.scope → at (revised ds c) x ≡ 0 → ⊥
  alive small s y m n x k z =
      let v = member (at (revised ds c) y) ((revised_sets (length ds) refl).1 y) n in
      let w = all_left small s y v.0 x m k v.2 in
      of_not (has 0 w.0) (has_none w.0) (subst (λ (a : ℕ). T (has a w.0)) z w.1)

-- ---- only the sets of the scope count
row_same : (ds es : List ℕ) (x v : ℕ) (ys ws : List ℕ) → ((y : ℕ) → Memᴰ y ys → at es y ≡ at ds y) → T (row_with ds x v ys ws) → T (row_with es x v ys ws)
unfolding row_with
row_same ds es x v [] [] h t = t
row_same ds es x v [] (w ∷ ws) h t = t
row_same ds es x v (y ∷ ys) [] h t = t
row_same ds es x v (y ∷ ys) (w ∷ ws) h t =
    let r = both_r (has (at ds y) w) (both (asked x v y w) (row_with ds x v ys ws)) t in
    both_i (has (at es y) w) (both (asked x v y w) (row_with es x v ys ws))
    (subst (λ (z : ℕ). T (has z w)) (sym (h y (Memᴰ-head refl))) (both_l (has (at ds y) w) (both (asked x v y w) (row_with ds x v ys ws)) t))
    (both_i (asked x v y w) (row_with es x v ys ws) (both_l (asked x v y w) (row_with ds x v ys ws) r)
    (row_same ds es x v ys ws (λ z m. h z (Memᴰ-tail m)) (both_r (asked x v y w) (row_with ds x v ys ws) r)))

-- a constraint that takes nothing takes nothing either where the sets of its scope are the same
pub fixed_kept : (c : Constraint) (ds es : List ℕ) → Fixed ds c → ((x : ℕ) → Memᴰ x c.scope → at es x ≡ at ds x) → Fixed es c
fixed_kept c ds es f h x v t =
    Prune.supported_i es x v c
    (λ m. let r = any_e (row_with ds x v c.scope) c.rows (Prune.supported_e ds x v c m (f x v (subst (λ (z : ℕ). T (has z v)) (h x m) t))) in
    any_i (row_with es x v c.scope) c.rows r.0 r.1 (row_same ds es x v c.scope r.0 h r.2))
