-- Values that go together: where there is no constraint all do, and a value that one round keeps goes together with a value of every other
-- variable. The tables say so too. Assumes nothing.
use Rattle.model.specs.Kit.{◌≡◌, refl, sym, ap, subst, Bool, true, false, ◌⊎◌, inl, inr, ⊎_elim, List, [], ◌∷◌, Memᴰ, Memᴰ-head, Memᴰ-tail, ℕ, ◌+◌, ◌*◌, ◌/◌, ◌%◌, ◌^◌, ◌≤◌, ◌<◌, arith}
use Rattle.model.specs.Kit.{dec_lt, T, eqb, ltb, leb, eqb→eq, eqb_refl, length, ltb-true, ltb-false}
use Rattle.model.specs.{Lists.both, Lists.any, Lists.at, Lists.same, ValueSets.has, Problem.Problem, Problem.Constraint, Problem.constraint_at, Search.row_with, Search.supported}
use Rattle.model.specs.Inner.WellFormed.{WellFormed}
use Rattle.model.proofs.{Lists.of_T, Lists.both_l, Lists.both_r, Lists.either_r, Lists.any_i, Lists.any_e, Lists.same_refl, Sets.mask_i, Sets.mask_e, Sets.mask_lt, Prune.supported_e}
use Rattle.arrays.specs.Inner.Tables.{link_of, allowed, goes, Rows}
use Rattle.arrays.proofs.Links.{is_one, good, scope_order, link_scope, allowed_none}
use Rattle.prune_pairs.specs.Inner.Steps.{Narrow, Goes}

-- ---- the constraint on two variables
-- there is none, or it has the two for its scope
pub link_is : (p : Problem) (a b : ℕ) → (length p.constraints ≤ link_of p a b) ⊎ ((link_of p a b < length p.constraints) × ((constraint_at p (link_of p a b)).scope ≡ a ∷ b ∷ []))
link_is p a b = go (dec_lt (link_of p a b) (length p.constraints))
  where
    go : Dec (link_of p a b < length p.constraints) → (length p.constraints ≤ link_of p a b) ⊎ ((link_of p a b < length p.constraints) × ((constraint_at p (link_of p a b)).scope ≡ a ∷ b ∷ []))
    go (yes h) = inr (h, link_scope p a b h)
    go (no n) = inl (omega arith)

allowed_row : (p : Problem) (k v w : ℕ) (r : List ℕ) → Memᴰ r (constraint_at p k).rows → r ≡ v ∷ w ∷ [] → T (allowed p k v w)
allowed_row p k v w r m e =
    either_r (leb (length p.constraints) k) (any (same (v ∷ w ∷ [])) (constraint_at p k).rows)
    (any_i (same (v ∷ w ∷ [])) (constraint_at p k).rows r m (subst (λ (l : List ℕ). T (same (v ∷ w ∷ []) l)) (sym e) (same_refl (v ∷ w ∷ []))))

-- ---- a row of two values, one of them given
asked_e : (y w z : ℕ) → T (elim (eqb y y) [ true ↦ eqb w z | false ↦ true ]) → w ≡ z
asked_e y w z t = go (eqb y y) (of_T (eqb y y) (eqb_refl y)) t
  where
    go : (b : Bool) → b ≡ true → T (elim b [ true ↦ eqb w z | false ↦ true ]) → w ≡ z
    go true e t = eqb→eq w z t
    go false e t = absurd (subst T (sym e) tt)

module _ (ds : List ℕ) (x y w : ℕ) where
  abbrev asked : ℕ → ℕ → Bool
  asked a b = elim (eqb y a) [ true ↦ eqb w b | false ↦ true ]

  row_last : (r : List ℕ) → T (row_with ds y w (x ∷ y ∷ []) r) → (v : ℕ) × T (has (at ds x) v) × (r ≡ v ∷ w ∷ [])
  unfolding row_with
  row_last [] t = absurd t
  row_last (v ∷ []) t = absurd (both_r (asked x v) false (both_r (has (at ds x) v) (both (asked x v) false) t))
  row_last (v ∷ z ∷ []) t =
      let last : Bool = both (has (at ds y) z) (both (asked y z) true) in
      let q = both_r (asked x v) last (both_r (has (at ds x) v) (both (asked x v) last) t) in
      let e = asked_e y w z (both_l (asked y z) true (both_r (has (at ds y) z) (both (asked y z) true) q)) in
      (v, both_l (has (at ds x) v) (both (asked x v) last) t, ap (λ (u : ℕ). v ∷ u ∷ []) (sym e))
  row_last (v ∷ z ∷ u ∷ r) t =
      let last : Bool = both (has (at ds y) z) (both (asked y z) false) in
      let q = both_r (asked x v) last (both_r (has (at ds x) v) (both (asked x v) last) t) in
      absurd (both_r (asked y z) false (both_r (has (at ds y) z) (both (asked y z) false) q))

  row_first : (r : List ℕ) → T (row_with ds y w (y ∷ x ∷ []) r) → (v : ℕ) × T (has (at ds x) v) × (r ≡ w ∷ v ∷ [])
  unfolding row_with
  row_first [] t = absurd t
  row_first (z ∷ []) t = absurd (both_r (asked y z) false (both_r (has (at ds y) z) (both (asked y z) false) t))
  row_first (z ∷ v ∷ []) t =
      let last : Bool = both (has (at ds x) v) (both (asked x v) true) in
      let q = both_r (has (at ds y) z) (both (asked y z) last) t in
      let e = asked_e y w z (both_l (asked y z) last q) in
      (v, both_l (has (at ds x) v) (both (asked x v) true) (both_r (asked y z) last q), ap (λ (u : ℕ). u ∷ v ∷ []) (sym e))
  row_first (z ∷ v ∷ u ∷ r) t =
      let last : Bool = both (has (at ds x) v) (both (asked x v) false) in
      let q = both_r (asked y z) last (both_r (has (at ds y) z) (both (asked y z) last) t) in
      absurd (both_r (asked x v) false (both_r (has (at ds x) v) (both (asked x v) false) q))

-- ---- what goes together
module _ (p : Problem) (f : WellFormed p) where
  -- a constraint's scope ascends and is inside the variables
  scope_in : (a b : ℕ) → link_of p a b < length p.constraints → (constraint_at p (link_of p a b)).scope ≡ a ∷ b ∷ [] → (a < b) × (b < p.variables)
  scope_in a b h e =
      let g = good f (link_of p a b) h in
      (scope_order (constraint_at p (link_of p a b)) a b g e, g.inside b (subst (λ (l : List ℕ). Memᴰ b l) (sym e) (Memᴰ-tail (Memᴰ-head refl))))

  -- a variable's values go together with its own, and with those of what is no variable
  pub goes_free : (x v y w : ℕ) → x < p.variables → (y ≡ x) ⊎ (p.variables ≤ y) → T (goes p x v y w)
  unfolding goes
  goes_free x v y w l o = go (ltb x y) refl
    where
      go : (b : Bool) → ltb x y ≡ b → T (elim b [ true ↦ allowed p (link_of p x y) v w | false ↦ allowed p (link_of p y x) w v ])
      go true e =
          let h = ltb-true x y e in
          ⊎_elim (allowed_none p (link_of p x y) v w) (λ q. absurd (let s = scope_in x y q.0 q.1 in ⊎_elim (λ z. omega arith) (λ z. omega (arith, s.1)) o)) (link_is p x y)
      go false e =
          let h = ltb-false x y e in
          ⊎_elim (allowed_none p (link_of p y x) w v) (λ q. absurd (let s = scope_in y x q.0 q.1 in ⊎_elim (λ z. omega (arith, s.0)) (λ z. omega arith) o)) (link_is p y x)

  -- a value of y that has a row of every constraint inside the sets goes together with a value of x's set
  module _ (ds : List ℕ) (x y w u : ℕ) (t : T (has (at ds x) u)) (rows : (c : Constraint) → Memᴰ c p.constraints → T (supported ds y w c)) where
    a_row : (k : ℕ) (scope : List ℕ) → k < length p.constraints → (constraint_at p k).scope ≡ scope → Memᴰ y scope → (r : List ℕ) × Memᴰ r (constraint_at p k).rows × T
        (row_with ds y w scope r)
    a_row k scope h e m =
        let c = constraint_at p k in
        let q = any_e (row_with ds y w c.scope) c.rows (supported_e ds y w c (subst (λ (l : List ℕ). Memᴰ y l) (sym e) m) (rows c (is_one p k h))) in
        (q.0, q.1, subst (λ (l : List ℕ). T (row_with ds y w l q.0)) e q.2)

    pub goes_kept : (v : ℕ) × (T (has (at ds x) v) × T (goes p x v y w))
    unfolding goes
    goes_kept = go (ltb x y)
      where
        after : (length p.constraints ≤ link_of p x y) ⊎ ((link_of p x y < length p.constraints) × ((constraint_at p (link_of p x y)).scope ≡ x ∷ y ∷ [])) →
            (v : ℕ) × (T (has (at ds x) v) × T (allowed p (link_of p x y) v w))
        after (inl h) = (u, (t, allowed_none p (link_of p x y) u w h))
        after (inr h) =
            let r = a_row (link_of p x y) (x ∷ y ∷ []) h.0 h.1 (Memᴰ-tail (Memᴰ-head refl)) in
            let q = row_last ds x y w r.0 r.2 in
            (q.0, (q.1, allowed_row p (link_of p x y) q.0 w r.0 r.1 q.2))

        before : (length p.constraints ≤ link_of p y x) ⊎ ((link_of p y x < length p.constraints) × ((constraint_at p (link_of p y x)).scope ≡ y ∷ x ∷ [])) →
            (v : ℕ) × (T (has (at ds x) v) × T (allowed p (link_of p y x) w v))
        before (inl h) = (u, (t, allowed_none p (link_of p y x) w u h))
        before (inr h) =
            let r = a_row (link_of p y x) (y ∷ x ∷ []) h.0 h.1 (Memᴰ-head refl) in
            let q = row_first ds x y w r.0 r.2 in
            (q.0, (q.1, allowed_row p (link_of p y x) w q.0 r.0 r.1 q.2))

        go : (b : Bool) → (v : ℕ) × (T (has (at ds x) v) × T (elim b [ true ↦ allowed p (link_of p x y) v w | false ↦ allowed p (link_of p y x) w v ]))
        go true = after (link_is p x y)
        go false = before (link_is p y x)

-- ---- the same by the tables
module _ (p : Problem) (tables : List ℕ) (r : Rows p tables) (x : ℕ) (h : x < 12) where
  pub row_goes_e : (v y w : ℕ) → v < 16 → y < 16 → Goes tables x v y w → T (goes p x v y w)
  row_goes_e v y w k l t = (mask_e (goes p x v y) w (subst (λ (s : ℕ). T (has s w)) (r x v y h k l) t)).1

  pub row_goes_i : (v y w : ℕ) → v < 16 → y < 16 → w < 16 → T (goes p x v y w) → Goes tables x v y w
  row_goes_i v y w k l m t = subst (λ (s : ℕ). T (has s w)) (sym (r x v y h k l)) (mask_i (goes p x v y) w m t)

  pub narrow : Narrow tables (256 * x) 256
  narrow i l =
      let e : 256 * x + 16 * (i / 16) + i % 16 ≡ 256 * x + i = omega arith in
      subst (λ (j : ℕ). at tables j < 2 ^ 16) e (subst (λ (s : ℕ). s < 2 ^ 16) (sym (r x (i / 16) (i % 16) h (omega arith) (omega arith))) (mask_lt 16 (goes p x (i / 16) (i % 16))))
