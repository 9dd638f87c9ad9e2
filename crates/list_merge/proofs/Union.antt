-- The union of two ascending lists of rows: its members, its order, and its first row. Assumes nothing.
use Rattle.model.specs.Kit.{◌≡◌, refl, sym, ◌∙◌, subst, Bool, true, false, ◌⊎◌, inl, inr, ⊎_elim, List, [], ◌∷◌, Memᴰ, Memᴰ-head, Memᴰ-tail, Memᴰ-not_nil, ℕ, T, length}
use Rattle.model.specs.Lists.{same}
use Rattle.model.proofs.{Lists.T_of, Lists.of_not, Lists.same_eq, Lists.same_refl, Lists.earlier_asym, Lists.earlier_trans, Lists.Sorted, Lists.sorted_ext, Room.Wide, Room.wide_tail}
use Rattle.list_merge.specs.{Merge.insert, Merge.union, Inner.Inner.Places}
use Rattle.order.specs.Reordered.{read, earlier_by}
use Rattle.list_merge.proofs.Reading.{rows_equal, Earlier}

-- ---- members
pub insert_e : (order r : List ℕ) (rows : List (List ℕ)) (z : List ℕ) → Memᴰ z (insert order r rows) → (z ≡ r) ⊎ Memᴰ z rows
unfolding insert
insert_e order r [] z (Memᴰ-head e) = inl e
insert_e order r [] z (Memᴰ-tail m) = inr m
insert_e order r (s ∷ rows) z m = go (insert_e order r rows z) (same r s) (earlier_by order r s) m
  where
    go : (Memᴰ z (insert order r rows) → (z ≡ r) ⊎ Memᴰ z rows) → (b c : Bool) → Memᴰ z
        (elim b [ true ↦ s ∷ rows | false ↦ elim c [ true ↦ r ∷ s ∷ rows | false ↦ s ∷ insert order r rows ] ]) → (z ≡ r) ⊎ Memᴰ z (s ∷ rows)
    go ih true c m = inr m
    go ih false true (Memᴰ-head e) = inl e
    go ih false true (Memᴰ-tail m) = inr m
    go ih false false (Memᴰ-head e) = inr (Memᴰ-head e)
    go ih false false (Memᴰ-tail m) = ⊎_elim {C = (z ≡ r) ⊎ Memᴰ z (s ∷ rows)} (λ e. inl e) (λ k. inr (Memᴰ-tail k)) (ih m)

pub insert_i : (order r : List ℕ) (rows : List (List ℕ)) (z : List ℕ) → (z ≡ r) ⊎ Memᴰ z rows → Memᴰ z (insert order r rows)
unfolding insert
insert_i order r [] z (inl e) = Memᴰ-head e
insert_i order r [] z (inr m) = absurd (Memᴰ-not_nil m)
insert_i order r (s ∷ rows) z h = go (insert_i order r rows z) (same r s) refl (earlier_by order r s) h
  where
    go : ((z ≡ r) ⊎ Memᴰ z rows → Memᴰ z (insert order r rows)) → (b : Bool) → same r s ≡ b → (c : Bool) → (z ≡ r) ⊎ Memᴰ z (s ∷ rows) → Memᴰ z
        (elim b [ true ↦ s ∷ rows | false ↦ elim c [ true ↦ r ∷ s ∷ rows | false ↦ s ∷ insert order r rows ] ])
    go ih true e c (inl q) = Memᴰ-head (q ∙ same_eq r s (T_of (same r s) e))
    go ih true e c (inr m) = m
    go ih false e true (inl q) = Memᴰ-head q
    go ih false e true (inr m) = Memᴰ-tail m
    go ih false e false (inl q) = Memᴰ-tail (ih (inl q))
    go ih false e false (inr (Memᴰ-head q)) = Memᴰ-head q
    go ih false e false (inr (Memᴰ-tail m)) = Memᴰ-tail (ih (inr m))

pub union_e : (order : List ℕ) (rows others : List (List ℕ)) (z : List ℕ) → Memᴰ z (union order rows others) → Memᴰ z rows ⊎ Memᴰ z others
unfolding union
union_e order rows [] z m = inl m
union_e order rows (r ∷ others) z m =
    ⊎_elim {C = Memᴰ z rows ⊎ Memᴰ z (r ∷ others)} (λ e. inr (Memᴰ-head e))
    (λ k. ⊎_elim {C = Memᴰ z rows ⊎ Memᴰ z (r ∷ others)} (λ j. inl j) (λ j. inr (Memᴰ-tail j)) (union_e order rows others z k))
    (insert_e order r (union order rows others) z m)

pub union_i : (order : List ℕ) (rows others : List (List ℕ)) (z : List ℕ) → Memᴰ z rows ⊎ Memᴰ z others → Memᴰ z (union order rows others)
unfolding union
union_i order rows [] z (inl m) = m
union_i order rows [] z (inr m) = absurd (Memᴰ-not_nil m)
union_i order rows (r ∷ others) z (inl m) = insert_i order r (union order rows others) z (inr (union_i order rows others z (inl m)))
union_i order rows (r ∷ others) z (inr (Memᴰ-head e)) = insert_i order r (union order rows others) z (inl e)
union_i order rows (r ∷ others) z (inr (Memᴰ-tail m)) = insert_i order r (union order rows others) z (inr (union_i order rows others z (inr m)))

pub union_wide : (n : ℕ) (order : List ℕ) (rows others : List (List ℕ)) → Wide n rows → Wide n others → Wide n (union order rows others)
union_wide n order rows others v w z m = ⊎_elim {C = length z ≡ n} (v z) (w z) (union_e order rows others z m)

-- ---- the order
module _ (n : ℕ) (order : List ℕ) (p : Places n order) where
  -- a row that is not another and does not read earlier reads later
  later : (r s : List ℕ) → length r ≡ n → length s ≡ n → same r s ≡ false → earlier_by order r s ≡ false → T (earlier_by order s r)
  later r s er es d e = go (earlier_by order s r) refl
    where
      go : (b : Bool) → earlier_by order s r ≡ b → T (earlier_by order s r)
      go true q = T_of (earlier_by order s r) q
      go false q = absurd (of_not (same r s) d (subst (λ (x : List ℕ). T (same r x)) (rows_equal n order p r s er es e q) (same_refl r)))

  insert_sorted : (r : List ℕ) (rows : List (List ℕ)) → length r ≡ n → Wide n rows → Sorted (Earlier order) rows → Sorted (Earlier order) (insert order r rows)
  unfolding insert
  insert_sorted r [] er w s = (λ y m. absurd (Memᴰ-not_nil m), tt)
  insert_sorted r (x ∷ rows) er w s = go (insert_sorted r rows er (wide_tail w) s.1) (same r x) refl (earlier_by order r x) refl
    where
      first : T (earlier_by order r x) → (z : List ℕ) → Memᴰ z (x ∷ rows) → Earlier order r z
      first h z (Memᴰ-head q) = subst (λ (y : List ℕ). Earlier order r y) (sym q) h
      first h z (Memᴰ-tail m) = earlier_trans (read order r) (read order x) (read order z) h (s.0 z m)

      go : Sorted (Earlier order) (insert order r rows) → (b : Bool) → same r x ≡ b → (c : Bool) → earlier_by order r x ≡ c → Sorted (Earlier order)
          (elim b [ true ↦ x ∷ rows | false ↦ elim c [ true ↦ r ∷ x ∷ rows | false ↦ x ∷ insert order r rows ] ])
      go ih true e c f = s
      go ih false e true f = (first (T_of (earlier_by order r x) f), s)
      go ih false e false f =
          (λ z m. ⊎_elim {C = Earlier order x z} (λ q. subst (λ (y : List ℕ). Earlier order x y) (sym q) (later r x er (w x (Memᴰ-head refl)) e f)) (s.0 z) (insert_e order r rows z m), ih)

  pub union_sorted : (rows others : List (List ℕ)) → Wide n rows → Wide n others → Sorted (Earlier order) rows → Sorted (Earlier order) (union order rows others)
  unfolding union
  union_sorted rows [] v w s = s
  union_sorted rows (r ∷ others) v w s =
      insert_sorted r (union order rows others) (w r (Memᴰ-head refl)) (union_wide n order rows others v (wide_tail w)) (union_sorted rows others v (wide_tail w) s)

  -- the union's first row and what is left of the two lists after it
  pub union_step : (r : List ℕ) (rows others rows' others' : List (List ℕ)) → Wide n rows → Wide n others → Wide n rows' → Wide n others' → Sorted (Earlier order) rows → Sorted (Earlier order) rows' →
      ((z : List ℕ) → Memᴰ z rows' → Earlier order r z) → ((z : List ℕ) → Memᴰ z others' → Earlier order r z) →
      ((z : List ℕ) → Memᴰ z rows ⊎ Memᴰ z others → (z ≡ r) ⊎ (Memᴰ z rows' ⊎ Memᴰ z others')) →
      ((z : List ℕ) → (z ≡ r) ⊎ (Memᴰ z rows' ⊎ Memᴰ z others') → Memᴰ z rows ⊎ Memᴰ z others) →
      union order rows others ≡ r ∷ union order rows' others'
  union_step r rows others rows' others' v w v' w' s s' f g there back =
      sorted_ext (Earlier order) (λ x y. earlier_asym (read order x) (read order y)) (union order rows others) (r ∷ union order rows' others')
      (union_sorted rows others v w s)
      (λ z m. ⊎_elim {C = Earlier order r z} (f z) (g z) (union_e order rows' others' z m), union_sorted rows' others' v' w' s')
      (λ z m. in_step z (there z (union_e order rows others z m)))
      (λ z m. union_i order rows others z (back z (out_step z m)))
    where
      in_step : (z : List ℕ) → (z ≡ r) ⊎ (Memᴰ z rows' ⊎ Memᴰ z others') → Memᴰ z (r ∷ union order rows' others')
      in_step z (inl e) = Memᴰ-head e
      in_step z (inr m) = Memᴰ-tail (union_i order rows' others' z m)

      out_step : (z : List ℕ) → Memᴰ z (r ∷ union order rows' others') → (z ≡ r) ⊎ (Memᴰ z rows' ⊎ Memᴰ z others')
      out_step z (Memᴰ-head e) = inl e
      out_step z (Memᴰ-tail m) = inr (union_e order rows' others' z m)
