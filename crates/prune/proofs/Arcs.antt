-- Constraints on two variables by variable: what the search's tables say of them, and that they take nothing where the arcs hold. Assumes nothing.
use Rattle.model.specs.Kit.{◌≡◌, refl, sym, subst, Bool, true, false, inl, inr, List, [], ◌∷◌, Memᴰ, Memᴰ-head, Memᴰ-tail, Memᴰ-not_nil, ℕ, ◌<◌, arith, ℕ_discrete, T, eqb, ltb}
use Rattle.model.specs.Kit.{eqb→eq, length, ltb-true, ltb-false}
use Rattle.model.specs.{Lists.any, Lists.at, Lists.same, ValueSets.has, ValueSets.Inside, Problem.Problem, Problem.constraint_at, Search.supported, Inner.WellFormed.GoodConstraint}
use native.Mathlib.Nat.{le_of_lt}
use Rattle.model.proofs.Lists.{of_not, any_e, among_i, same_eq, list_2, ascending_sorted}
use Rattle.arrays.specs.{Inner.Places.LINKED, Inner.Tables.link_of, Inner.Tables.is_by_rows, Inner.Tables.allowed, Inner.Tables.goes, Inner.Tables.Linked, Inner.Pruning.Fixed}
use Rattle.arrays.specs.Inner.Pruning.{Arc}
use Rattle.arrays.proofs.Links.{scope_order, link_scope, by_rows_link, by_rows_two, link_by_rows, allowed_none, allowed_is, goes_up, goes_down}
use Rattle.prune_constraints.proofs.Rows.{RowIn, PairIn, supported_i, supported_out}

module _ (p : Problem) where
  pub by_rows_scope : (k : ℕ) → T (is_by_rows p k) → (x : ℕ) × ((y : ℕ) × (((constraint_at p k).scope ≡ x ∷ y ∷ []) × (link_of p x y ≡ k)))
  by_rows_scope k t =
      let e = list_2 (constraint_at p k).scope _ _ (by_rows_two p k t) refl refl in
      (at (constraint_at p k).scope 0, (at (constraint_at p k).scope 1, (e, eqb→eq _ k (subst T (by_rows_link p k _ _ e) t))))

  -- ---- values that go together
  -- all go together where there is no constraint
  pub goes_free : (x v y w : ℕ) → (link_of p x y < length p.constraints → ⊥) → (link_of p y x < length p.constraints → ⊥) → T (goes p x v y w)
  goes_free x v y w f g = go (ltb x y) refl
    where
      go : (b : Bool) → ltb x y ≡ b → T (goes p x v y w)
      go true e = subst T (sym (goes_up p x v y w (ltb-true x y e))) (allowed_none p (link_of p x y) v w (omega arith))
      go false e = subst T (sym (goes_down p x v y w (ltb-false x y e))) (allowed_none p (link_of p y x) w v (omega arith))

  -- a variable in no constraint that is pruned by variable refuses nothing
  pub goes_unlinked : (numbers : List ℕ) → Linked p numbers → (x v y w : ℕ) → has (at numbers LINKED) x ≡ false → T (goes p x v y w)
  goes_unlinked numbers l x v y w f =
      goes_free x v y w
      (λ h. of_not (has (at numbers LINKED) x) f (l.linked x (link_of p x y) h (link_by_rows p x y h)
      (subst (λ (s : List ℕ). T (any (eqb x) s)) (sym (link_scope p x y h)) (among_i x (x ∷ y ∷ []) (Memᴰ-head refl)))))
      (λ h. of_not (has (at numbers LINKED) x) f (l.linked x (link_of p y x) h (link_by_rows p y x h)
      (subst (λ (s : List ℕ). T (any (eqb x) s)) (sym (link_scope p y x h)) (among_i x (y ∷ x ∷ []) (Memᴰ-tail (Memᴰ-head refl))))))

  -- ---- arcs
  pub arc_kept : (ds es : List ℕ) (x : ℕ) → Inside es ds → at es x ≡ at ds x → Arc p ds x → Arc p es x
  arc_kept ds es x i e a y w t = let r = a y w (i y w t) in (r.0, (subst (λ (s : ℕ). T (has s r.0)) (sym e) r.1.0, r.1.1))

  pub arc_free : (numbers : List ℕ) → Linked p numbers → (ds : List ℕ) (x v : ℕ) → has (at numbers LINKED) x ≡ false → T (has (at ds x) v) → Arc p ds x
  arc_free numbers l ds x v f t y w u = (v, (t, goes_unlinked numbers l x v y w f))

  -- ---- from arcs to constraints
  module _ (ds : List ℕ) (good : (k : ℕ) → k < length p.constraints → GoodConstraint p (constraint_at p k)) where
    -- the row that allows two values supports both
    module _ (k x y : ℕ) (h : k < length p.constraints) (s : (constraint_at p k).scope ≡ x ∷ y ∷ []) (a b : ℕ) (t : T (has (at ds x) a)) (u : T (has (at ds y) b)) (g : T (allowed p k a b)) where
      row : Memᴰ (a ∷ b ∷ []) (constraint_at p k).rows
      row =
          let r = any_e (same (a ∷ b ∷ [])) (constraint_at p k).rows (subst T (allowed_is p k a b h) g) in
          subst (λ (z : List ℕ). Memᴰ z (constraint_at p k).rows) (sym (same_eq (a ∷ b ∷ []) r.0 r.2)) r.1

      inside : RowIn ds (constraint_at p k).scope (a ∷ b ∷ [])
      inside = subst (λ (z : List ℕ). RowIn ds z (a ∷ b ∷ [])) (sym s) (t, (u, tt))

      pub first_supported : T (supported ds x a (constraint_at p k))
      first_supported =
          supported_i (constraint_at p k) ds x a (ascending_sorted (constraint_at p k).scope (good k h).ordered) (a ∷ b ∷ []) row inside
          (subst (λ (z : List ℕ). PairIn x a z (a ∷ b ∷ [])) (sym s) (inl (refl, refl)))

      pub second_supported : T (supported ds y b (constraint_at p k))
      second_supported =
          supported_i (constraint_at p k) ds y b (ascending_sorted (constraint_at p k).scope (good k h).ordered) (a ∷ b ∷ []) row inside
          (subst (λ (z : List ℕ). PairIn y b z (a ∷ b ∷ [])) (sym s) (inr (inl (refl, refl))))

    pub arcs_fixed : (k : ℕ) → k < length p.constraints → T (is_by_rows p k) → ((x : ℕ) → x < p.variables → Arc p ds x) → Fixed ds (constraint_at p k)
    arcs_fixed k h b arcs x v t = go (ℕ_discrete x a) (ℕ_discrete x c)
      where
        q : (x : ℕ) × ((y : ℕ) × (((constraint_at p k).scope ≡ x ∷ y ∷ []) × (link_of p x y ≡ k)))
        q = by_rows_scope k b

        a : ℕ
        a = q.0

        c : ℕ
        c = q.1.0

        s : (constraint_at p k).scope ≡ a ∷ c ∷ []
        s = q.1.1.0

        lt : a < c
        lt = scope_order (constraint_at p k) a c (good k h) s

        a_in : a < p.variables
        a_in = (good k h).inside a (subst (Memᴰ a) (sym s) (Memᴰ-head refl))

        c_in : c < p.variables
        c_in = (good k h).inside c (subst (Memᴰ c) (sym s) (Memᴰ-tail (Memᴰ-head refl)))

        go : Dec (x ≡ a) → Dec (x ≡ c) → T (supported ds x v (constraint_at p k))
        go (yes e) d =
            let t' = subst (λ (z : ℕ). T (has (at ds z) v)) e t in
            let r = arcs c c_in a v t' in
            subst (λ (z : ℕ). T (supported ds z v (constraint_at p k))) (sym e)
            (first_supported k a c h s v r.0 t' r.1.0 (subst (λ (z : ℕ). T (allowed p z v r.0)) q.1.1.1 (subst T (goes_down p c r.0 a v (le_of_lt lt)) r.1.1)))
        go (no n) (yes e) =
            let t' = subst (λ (z : ℕ). T (has (at ds z) v)) e t in
            let r = arcs a a_in c v t' in
            subst (λ (z : ℕ). T (supported ds z v (constraint_at p k))) (sym e)
            (second_supported k a c h s r.0 v r.1.0 t' (subst (λ (z : ℕ). T (allowed p z r.0 v)) q.1.1.1 (subst T (goes_up p a r.0 c v lt) r.1.1)))
        go (no n) (no m) = supported_out (constraint_at p k) ds x v (λ i. neither (subst (Memᴰ x) s i))
          where
            neither : Memᴰ x (a ∷ c ∷ []) → ⊥
            neither (Memᴰ-head e) = n e
            neither (Memᴰ-tail (Memᴰ-head e)) = m e
            neither (Memᴰ-tail (Memᴰ-tail i)) = Memᴰ-not_nil i
