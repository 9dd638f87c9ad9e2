-- Two prefixes that agree on what is left: behind them any values leave the same sets. Assumes nothing.
use Rattle.model.specs.Kit.{◌≡◌, refl, sym, ap, ◌∙◌, subst, Bool, true, false, ◌⊎◌, inl, inr, List, [], ◌∷◌, ◌++◌, map, Memᴰ, Memᴰ-head, Memᴰ-tail, Memᴰ-not_nil, ℕ, ◌+◌, ◌-◌, ◌^◌}
use Rattle.model.specs.Kit.{◌≤◌, ◌<◌, dec_lt, arith, T, eqb, leb, eqb→eq, eqb_refl, T_not, length, drop, length-append, length-drop, length-map, pow-lt, eqb-true, le-leb, leb-true}
use Rattle.model.specs.{Lists.both, Lists.any, Lists.at, ValueSets.has, ValueSets.any_empty, Problem.Problem, Problem.Constraint, Nogood.Entry, Nogood.obeys, Nogood.filtered, Search.entries_at}
use Rattle.model.specs.{Search.nogoods_of, Search.row_with, Search.sets_at, Search.is_live, Claims.Drawn, Claims.Consistent, Inner.WellFormed.WellFormed}
use Rattle.model.proofs.Lists.{both_i, both_l, both_r, T_of, of_T, TExt, TDec, not_of, of_not, any_i, any_e, keep_i, keep_e, at_append, at_skip, at_drop, at_map, at_ext}
use Rattle.model.proofs.Sets.{has_lt, has_at_lt, has_none, mask_ext, member, empty_i, empty_e, inside_antisym}
use Rattle.model.proofs.{Masks.has_one, Assignments.drawn_i, Assignments.drawn_e, Filter.filtered_i, Filter.filtered_e, Filter.filtered_sets, Filter.filtered_inside, Prune.Sized, Prune.sets_at_sets}
use Rattle.model.proofs.{Consistent.live_consistent, Consistent.consistent_inside, Consistent.dead_empty, Consistent.dead_none, Tree.well_sized, Child.child_sets}
use Rattle.run_alike.specs.Inner.Alike.{unsettled, SameSettled, Carries}

-- ---- lists
-- what stands behind the first n of two lists, one by one
pub behind_alike : (l r : List ℕ) (n : ℕ) → drop n l ≡ drop n r → (x : ℕ) → n ≤ x → at l x ≡ at r x
behind_alike l r n h x i =
    let e : n + (x - n) ≡ x = omega arith in
    ap (at l) (sym e) ∙ sym (at_drop n l (x - n)) ∙ ap (λ (t : List ℕ). at t (x - n)) h ∙ at_drop n r (x - n) ∙ ap (at r) e

lone : (l : List ℕ) (y z : ℕ) → (2 ≤ length l → ⊥) → Memᴰ y l → Memᴰ z l → y ≡ z
lone [] y z h m k = absurd (Memᴰ-not_nil m)
lone (u ∷ []) y z h m k = one m ∙ sym (one k)
  where
    one : {t : ℕ} → Memᴰ t (u ∷ []) → t ≡ u
    one m = mathlib.Core.List.Memᴰ.eq_of_singleton m
lone (u ∷ v ∷ l) y z h m k = absurd (h (omega arith))

-- ---- a row in other sets
-- with u at y in ds, then with v at x in es
row_turn : (ds es : List ℕ) (y u x v : ℕ) (ys ws : List ℕ) → ((z w : ℕ) → Memᴰ z ys → T (has (at ds z) w) → (y ≡ z → u ≡ w) → T (has (at es z) w) × (x ≡ z → v ≡ w)) →
    T (row_with ds y u ys ws) → T (row_with es x v ys ws)
unfolding row_with
row_turn ds es y u x v [] [] f t = t
row_turn ds es y u x v [] (w ∷ ws) f t = t
row_turn ds es y u x v (z ∷ ys) [] f t = t
row_turn ds es y u x v (z ∷ ys) (w ∷ ws) f t =
    let q : Bool = elim (eqb y z) [ true ↦ eqb u w | false ↦ true ] in
    let q' : Bool = elim (eqb x z) [ true ↦ eqb v w | false ↦ true ] in
    let a = both_l (has (at ds z) w) (both q (row_with ds y u ys ws)) t in
    let r = both_r (has (at ds z) w) (both q (row_with ds y u ys ws)) t in
    let s = f z w (Memᴰ-head refl) a (λ e. out (eqb y z) (subst (λ (j : ℕ). T (eqb y j)) e (eqb_refl y)) (both_l q (row_with ds y u ys ws) r)) in
    both_i (has (at es z) w) (both q' (row_with es x v ys ws)) s.0
    (both_i q' (row_with es x v ys ws) (into (eqb x z) refl s.1) (row_turn ds es y u x v ys ws (λ z w m. f z w (Memᴰ-tail m)) (both_r q (row_with ds y u ys ws) r)))
  where
    out : (b : Bool) → T b → T (elim b [ true ↦ eqb u w | false ↦ true ]) → u ≡ w
    out true b t = eqb→eq u w t
    out false b t = absurd b

    into : (b : Bool) → eqb x z ≡ b → (x ≡ z → v ≡ w) → T (elim b [ true ↦ eqb v w | false ↦ true ])
    into true e h = subst (λ (j : ℕ). T (eqb v j)) (h (eqb-true x z e)) (eqb_refl v)
    into false e h = tt

-- ---- the sets at a live prefix
live_none : (p : Problem) (prefix : List ℕ) → T (is_live p prefix) → any_empty (sets_at p prefix) ≡ false
unfolding is_live
live_none p prefix t = not_of (any_empty (sets_at p prefix)) (T_not (any_empty (sets_at p prefix)) t)

module _ (p : Problem) (s : Sized p) (prefix : List ℕ) (live : T (is_live p prefix)) where
  pub some_value : (x : ℕ) → x < p.variables → (v : ℕ) × (v < 16) × T (has (at (sets_at p prefix) x) v)
  some_value x l =
      let k = sets_at_sets p prefix s in
      member (at (sets_at p prefix) x) (k.1 x) (λ e. of_not (any_empty (sets_at p prefix)) (live_none p prefix live) (empty_i (sets_at p prefix) x (subst (λ (n : ℕ). x < n) (sym k.0) l) e))

  pub own_only : (x v : ℕ) → x < length prefix → T (has (at (sets_at p prefix) x) v) → v ≡ at prefix x
  own_only x v l t = (live_consistent p prefix s live).given x v l t

  pub own_value : (x : ℕ) → x < length prefix → x < p.variables → T (has (at (sets_at p prefix) x) (at prefix x))
  own_value x l m = let r = some_value x m in subst (λ (v : ℕ). T (has (at (sets_at p prefix) x) v)) (own_only x r.0 l r.2) r.2

  pub own_set : (x : ℕ) → x < length prefix → x < p.variables → at (sets_at p prefix) x ≡ 2 ^ at prefix x
  own_set x l m =
      let k = (sets_at_sets p prefix s).1 x in
      let o = own_value x l m in
      mask_ext 16 (at (sets_at p prefix) x) (2 ^ at prefix x) k (pow-lt (has_lt 16 (at (sets_at p prefix) x) (at prefix x) k o))
      (λ v b. TExt (has (at (sets_at p prefix) x) v) (has (2 ^ at prefix x) v) (λ t. subst (λ (j : ℕ). T (has (2 ^ at prefix x) j)) (sym (own_only x v l t))
      (subst T (sym (has_one (at prefix x) (at prefix x))) (eqb_refl (at prefix x))))
      (λ t. subst (λ (j : ℕ). T (has (at (sets_at p prefix) x) j)) (sym (eqb→eq v (at prefix x) (subst T (has_one (at prefix x) v) t))) o))

-- ---- what two prefixes are to agree on
pub record Agree (p : Problem) (a b : List ℕ) : Type 0 where
  pub sized : length a ≡ length b
  pub first : T (is_live p a)
  pub second : T (is_live p b)
  pub later : (x : ℕ) → length a ≤ x → at (sets_at p a) x ≡ at (sets_at p b) x
  pub settled : SameSettled p a b
  pub lists : (g : List ℕ) → Memᴰ g p.symmetries → Carries p g a b
  pub back : (g : List ℕ) → Memᴰ g p.symmetries → Carries p g b a

pub swapped : (p : Problem) (a b : List ℕ) → Agree p a b → Agree p b a
swapped p a b h = record {
  sized = sym h.sized;
  first = h.second;
  second = h.first;
  later = λ x l. sym (h.later x (omega (arith, h.sized)));
  settled = λ c m n x i l. sym (h.settled c m (subst (λ (k : ℕ). 2 ≤ length (unsettled k c.scope)) (sym h.sized) n) x i (omega (arith, h.sized)));
  lists = h.back;
  back = h.lists;
}

module _ (p : Problem) (w : WellFormed p) (a b : List ℕ) (h : Agree p a b) (more : List ℕ) (room : length a + length more ≤ p.variables) (live : T (is_live p (a ++ more))) where
  abbrev k : ℕ
  k = length a

  z : Sized p
  z = well_sized p w

  abbrev ds : List ℕ
  ds = sets_at p (a ++ more)

  abbrev sb : List ℕ
  sb = sets_at p b

  cd : Consistent (λ x. x) p (a ++ more) ds
  cd = live_consistent p (a ++ more) z live

  cb : Consistent (λ x. x) p b sb
  cb = live_consistent p b z h.second

  -- b's values, then the sets behind a ++ more
  abbrev es : List ℕ
  es = map (λ (v : ℕ). 2 ^ v) b ++ drop k ds

  es_length : length es ≡ p.variables
  es_length = length-append (map (λ (v : ℕ). 2 ^ v) b) (drop k ds) ∙ omega (arith, length-map b (λ (v : ℕ). 2 ^ v), length-drop k ds, cd.sized, h.sized)

  es_front : (x : ℕ) → x < k → at es x ≡ 2 ^ at b x
  es_front x l =
      at_append (map (λ (v : ℕ). 2 ^ v) b) (drop k ds) x (omega (arith, length-map b (λ (v : ℕ). 2 ^ v), h.sized)) ∙ at_map (λ (v : ℕ). 2 ^ v) b x (omega (arith, h.sized))

  es_back : (x : ℕ) → k ≤ x → at es x ≡ at ds x
  es_back x l =
      at_skip (map (λ (v : ℕ). 2 ^ v) b) (drop k ds) k x (length-map b (λ (v : ℕ). 2 ^ v) ∙ sym h.sized) l ∙ at_drop k ds (x - k) ∙ ap (at ds) (omega arith)

  front_only : (x v : ℕ) → x < k → T (has (at es x) v) → v ≡ at b x
  front_only x v l t = eqb→eq v (at b x) (subst T (ap (λ (s : ℕ). has s v) (es_front x l) ∙ has_one (at b x) v) t)

  front_has : (x : ℕ) → x < k → T (has (at es x) (at b x))
  front_has x l = subst T (sym (ap (λ (s : ℕ). has s (at b x)) (es_front x l) ∙ has_one (at b x) (at b x))) (eqb_refl (at b x))

  back_e : (x v : ℕ) → k ≤ x → T (has (at es x) v) → T (has (at ds x) v)
  back_e x v l t = subst (λ (s : ℕ). T (has s v)) (es_back x l) t

  back_i : (x v : ℕ) → k ≤ x → T (has (at ds x) v) → T (has (at es x) v)
  back_i x v l t = subst (λ (s : ℕ). T (has s v)) (sym (es_back x l)) t

  below_n : (x : ℕ) → x < k → x < p.variables
  below_n x l = omega arith

  -- they lie inside b's sets
  es_in : (x v : ℕ) → T (has (at es x) v) → T (has (at sb x) v)
  es_in x v t = go (dec_lt x k)
    where
      go : Dec (x < k) → T (has (at sb x) v)
      go (yes l) = subst (λ (u : ℕ). T (has (at sb x) u)) (sym (front_only x v l t)) (own_value p z b h.second x (omega (arith, h.sized)) (below_n x l))
      go (no l) = let l' : k ≤ x = omega arith in subst (λ (s : ℕ). T (has s v)) (h.later x l') (child_sets p a more z x v (back_e x v l' t))

  -- ---- a row for each value
  -- a value of a variable of the scope, that of the one variable left if there is one
  pub record Pick (scope : List ℕ) (x v : ℕ) : Type 0 where
    pub var : ℕ
    pub val : ℕ
    pub among : Memᴰ var scope
    pub held : T (has (at es var) val)
    pub only : (y : ℕ) → Memᴰ y scope → k ≤ y → var ≡ y
    pub own : (y : ℕ) → Memᴰ y scope → k ≤ y → x ≡ y → v ≡ val

  es_row : (c : Constraint) → Memᴰ c p.constraints → (x v : ℕ) → Memᴰ x c.scope → T (has (at es x) v) → T (any (row_with es x v c.scope) c.rows)
  es_row c m x v i t = go (dec_lt (length left) 2)
    where
      left : List ℕ
      left = unsettled k c.scope

      in_left : (y : ℕ) → Memᴰ y c.scope → k ≤ y → Memᴰ y left
      in_left y j l = keep_i (leb k) c.scope y j (T_of (leb k y) (le-leb k y l))

      wide : (2 ≤ length left) → T (any (row_with es x v c.scope) c.rows)
      wide two =
          let r = any_e (row_with ds x v c.scope) c.rows (cd.rows c m x v i (same x v i t)) in
          any_i (row_with es x v c.scope) c.rows r.0 r.1
          (row_turn ds es x v x v c.scope r.0 (λ y u j q e. (other y u j q, e)) r.2)
        where
          agreed : (y : ℕ) → Memᴰ y c.scope → y < k → at a y ≡ at b y
          agreed y j l = h.settled c m two y j l

          own : (y : ℕ) → y < k → at (a ++ more) y ≡ at a y
          own y l = at_append a more y l

          same : (y u : ℕ) → Memᴰ y c.scope → T (has (at es y) u) → T (has (at ds y) u)
          same y u j q = pick (dec_lt y k)
            where
              pick : Dec (y < k) → T (has (at ds y) u)
              pick (yes l) =
                  subst (λ (s : ℕ). T (has (at ds y) s)) (own y l ∙ agreed y j l ∙ sym (front_only y u l q))
                  (own_value p z (a ++ more) live y (omega (arith, length-append a more)) (below_n y l))
              pick (no l) = back_e y u (omega arith) q

          other : (y u : ℕ) → Memᴰ y c.scope → T (has (at ds y) u) → T (has (at es y) u)
          other y u j q = pick (dec_lt y k)
            where
              pick : Dec (y < k) → T (has (at es y) u)
              pick (yes l) =
                  subst (λ (s : ℕ). T (has (at es y) s)) (sym (own_only p z (a ++ more) live y u (omega (arith, length-append a more)) q ∙ own y l ∙ agreed y j l)) (front_has y l)
              pick (no l) = back_i y u (omega arith) q

      by : Pick c.scope x v → ((y y' : ℕ) → Memᴰ y left → Memᴰ y' left → y ≡ y') → T (any (row_with es x v c.scope) c.rows)
      by o f =
          let r = any_e (row_with sb o.var o.val c.scope) c.rows (cb.rows c m o.var o.val o.among (es_in o.var o.val o.held)) in
          any_i (row_with es x v c.scope) c.rows r.0 r.1 (row_turn sb es o.var o.val x v c.scope r.0 (λ y u j q e. each y u j q e (dec_lt y k)) r.2)
        where
          each : (y u : ℕ) → Memᴰ y c.scope → T (has (at sb y) u) → (o.var ≡ y → o.val ≡ u) → Dec (y < k) → T (has (at es y) u) × (x ≡ y → v ≡ u)
          each y u j q e (yes l) =
              let g : u ≡ at b y = own_only p z b h.second y u (omega (arith, h.sized)) q in
              (subst (λ (s : ℕ). T (has (at es y) s)) (sym g) (front_has y l), λ s. front_only x v (omega arith) t ∙ ap (at b) s ∙ sym g)
          each y u j q e (no l) =
              let l' : k ≤ y = omega arith in
              let n = o.only y j l' in
              let g = e n in
              (subst (λ (s : ℕ). T (has (at es s) u)) n (subst (λ (s : ℕ). T (has (at es o.var) s)) g o.held), λ s. o.own y j l' s ∙ g)

      picked : ((y y' : ℕ) → Memᴰ y left → Memᴰ y' left → y ≡ y') → Pick c.scope x v
      picked f = here (dec_lt x k)
        where
          here : Dec (x < k) → Pick c.scope x v
          here (no l) = record { var = x; val = v; among = i; held = t; only = λ y j q. f x y (in_left x i (omega arith)) (in_left y j q); own = λ y j q e. refl }
          here (yes l) = there left in_left (λ y j. let r = keep_e (leb k) c.scope y j in (r.0, leb-true k y (of_T (leb k y) r.1)))
            where
              there : (l : List ℕ) → ((y : ℕ) → Memᴰ y c.scope → k ≤ y → Memᴰ y l) → ((y : ℕ) → Memᴰ y l → Memᴰ y c.scope × (k ≤ y)) → Pick c.scope x v
              there [] into out = record { var = x; val = v; among = i; held = t; only = λ y j q. absurd (Memᴰ-not_nil (into y j q)); own = λ y j q e. refl }
              there (y ∷ ys) into out =
                  let o = out y (Memᴰ-head refl) in
                  let u = some_value p z (a ++ more) live y ((w.constrained c m).inside y o.0) in
                  record {
                    var = y;
                    val = u.0;
                    among = o.0;
                    held = back_i y u.0 o.1 u.2;
                    only = λ y' j q. f y y' (in_left y o.0 o.1) (in_left y' j q);
                    own = λ y' j q e.
                        absurd (omega arith);
                  }

      go : Dec (length left < 2) → T (any (row_with es x v c.scope) c.rows)
      go (yes l) = let f : (y y' : ℕ) → Memᴰ y left → Memᴰ y' left → y ≡ y' = λ y y' j j'. lone left y y' (λ two. omega arith) j j' in by (picked f) f
      go (no l) = wide (omega arith)

  -- ---- an assignment for each value
  module _ (s : List ℕ) (drawn : Drawn ds s) where
    behind : List ℕ
    behind = drop k s

    split : s ≡ a ++ behind
    unfolding behind
    split =
        at_ext s (a ++ drop k s) (sym (length-append a (drop k s) ∙ omega (arith, length-drop k s, drawn.0, cd.sized)))
        (λ x l. each x l (dec_lt x k))
      where
        each : (x : ℕ) → x < length s → Dec (x < k) → at s x ≡ at (a ++ drop k s) x
        each x l (yes q) =
            own_only p z (a ++ more) live x (at s x) (omega (arith, length-append a more)) (drawn.1 x (omega (arith, drawn.0))) ∙ at_append a more x q ∙ sym (at_append a (drop k s) x q)
        each x l (no q) = sym (at_skip a (drop k s) k x refl (omega arith) ∙ at_drop k s (x - k) ∙ ap (at s) (omega arith))

    behind_length : k + length behind ≡ p.variables
    unfolding behind
    behind_length = omega (arith, length-drop k s, drawn.0, cd.sized)

    behind_at : (i : ℕ) → at behind i ≡ at s (k + i)
    unfolding behind
    behind_at i = at_drop k s i

    behind_in : (i : ℕ) → i < length behind → T (has (at ds (k + i)) (at behind i))
    behind_in i l = subst (λ (v : ℕ). T (has (at ds (k + i)) v)) (sym (behind_at i)) (drawn.1 (k + i) (omega (arith, behind_length, cd.sized)))

    -- the same with b's values in front
    turned_drawn : Drawn es (b ++ behind)
    turned_drawn = (length-append b behind ∙ omega (arith, behind_length, es_length, h.sized), λ x l. each x (dec_lt x k) (subst (λ (n : ℕ). x < n) es_length l))
      where
        each : (x : ℕ) → Dec (x < k) → x < p.variables → T (has (at es x) (at (b ++ behind) x))
        each x (yes q) l = subst (λ (v : ℕ). T (has (at es x) v)) (sym (at_append b behind x (omega (arith, h.sized)))) (front_has x q)
        each x (no q) l =
            let e : k + (x - k) ≡ x = omega arith in
            subst (λ (v : ℕ). T (has (at es x) v)) (sym (at_skip b behind k x (sym h.sized) (omega arith)))
            (back_i x (at behind (x - k)) (omega arith) (subst (λ (y : ℕ). T (has (at ds y) (at behind (x - k)))) e (behind_in (x - k) (omega (arith, behind_length)))))

  es_small : (x : ℕ) → at es x < 2 ^ 16
  es_small x = go (dec_lt x k)
    where
      go : Dec (x < k) → at es x < 2 ^ 16
      go (yes l) =
          subst (λ (s : ℕ). s < 2 ^ 16) (sym (es_front x l)) (pow-lt (has_lt 16 (at sb x) (at b x) (cb.sixteen x) (own_value p z b h.second x (omega (arith, h.sized)) (below_n x l))))
      go (no l) = subst (λ (s : ℕ). s < 2 ^ 16) (sym (es_back x (omega arith))) (cd.sixteen x)

  es_filter : (g : List ℕ) → Memᴰ g p.symmetries → filtered es (nogoods_of p g (b ++ more)) ≡ es
  unfolding nogoods_of entries_at
  es_filter g m =
      inside_antisym (length es) (filtered es L) es (filtered_sets es L) (refl, es_small) (filtered_inside es L) (λ x v t. stays x v t (dec_lt x k))
    where
      L : List Entry
      L = nogoods_of p g (b ++ more)

      -- through each value that the sets behind a ++ more have at x goes an assignment that obeys; it goes on behind b
      through : (x u v : ℕ) → T (has (at ds x) u) → ((s : List ℕ) (d : Drawn ds s) → at s x ≡ u → at (b ++ behind s d) x ≡ v) → T (has (at (filtered es L) x) v)
      through x u v t f =
          let r = filtered_e ds (nogoods_of p g (a ++ more)) x u (subst (λ (l : List ℕ). T (has (at l x) u)) (sym (cd.filters g m)) t) in
          let s = r.0 in
          let d = drawn_e ds s r.1 in
          let o : T (obeys (a ++ behind s d) (nogoods_of p g (a ++ more))) = subst (λ (l : List ℕ). T (obeys l (nogoods_of p g (a ++ more)))) (split s d) r.2 in
          filtered_i es L x v (b ++ behind s d) (subst (λ (n : ℕ). x < n) (cd.sized ∙ sym es_length) (has_at_lt ds x u t)) (drawn_i es (b ++ behind s d) es_small (turned_drawn s d))
          (h.lists g m (behind s d) more (behind_length s d) room live (subst (Drawn ds) (split s d) d) o) (f s d r.3)

      stays : (x v : ℕ) → T (has (at es x) v) → Dec (x < k) → T (has (at (filtered es L) x) v)
      stays x v t (yes l) =
          through x (at (a ++ more) x) v (own_value p z (a ++ more) live x (omega (arith, length-append a more)) (below_n x l))
          (λ s d e. at_append b (behind s d) x (omega (arith, h.sized)) ∙ sym (front_only x v l t))
      stays x v t (no l) =
          through x v v (back_e x v (omega arith) t)
          (λ s d e. at_skip b (behind s d) k x (sym h.sized) (omega arith) ∙ behind_at s d (x - k) ∙ ap (at s) (omega arith) ∙ e)

  turned : Consistent (λ x. x) p (b ++ more) es
  unfolding nogoods_of entries_at
  turned = record {
    sized = es_length;
    sixteen = es_small;
    inside = λ x v t. cb.inside x v (es_in x v t);
    given = λ x v l t. given x v l t (dec_lt x k);
    rows = es_row;
    filters = es_filter;
  }
    where
      given : (x v : ℕ) → x < length (b ++ more) → T (has (at es x) v) → Dec (x < k) → v ≡ at (b ++ more) x
      given x v l t (yes q) = front_only x v q t ∙ sym (at_append b more x (omega (arith, h.sized)))
      given x v l t (no q) =
          cd.given x v (omega (arith, length-append a more, length-append b more, h.sized)) (back_e x v (omega arith) t) ∙ at_skip a more k x refl (omega arith)
          ∙ sym (at_skip b more k x (sym h.sized) (omega arith))

  es_some : T (any_empty es) → ⊥
  es_some t = let r = empty_e es t in go r.0 r.1 r.2 (dec_lt r.0 k)
    where
      none : (x v : ℕ) → at es x ≡ 0 → T (has (at es x) v) → ⊥
      none x v e t = of_not (has 0 v) (has_none v) (subst (λ (s : ℕ). T (has s v)) e t)

      go : (x : ℕ) → x < length es → at es x ≡ 0 → Dec (x < k) → ⊥
      go x l e (yes q) = none x (at b x) e (front_has x q)
      go x l e (no q) = let u = some_value p z (a ++ more) live x (omega (arith, es_length)) in none x u.0 e (back_i x u.0 (omega arith) u.2)

  -- so b ++ more is live too, and has those sets
  pub then_live : T (is_live p (b ++ more))
  then_live = go (TDec (is_live p (b ++ more)))
    where
      go : T (is_live p (b ++ more)) ⊎ (T (is_live p (b ++ more)) → ⊥) → T (is_live p (b ++ more))
      go (inl t) = t
      go (inr n) = absurd (es_some (dead_empty p (b ++ more) z (not_of (is_live p (b ++ more)) n) es turned))

  pub then_has : (x v : ℕ) → k ≤ x → T (has (at ds x) v) → T (has (at (sets_at p (b ++ more)) x) v)
  then_has x v l t = consistent_inside p (b ++ more) z then_live es turned x v (back_i x v l t)

-- ---- both ways
module _ (p : Problem) (w : WellFormed p) (a b : List ℕ) (h : Agree p a b) (more : List ℕ) (room : length a + length more ≤ p.variables) where
  back_room : length b + length more ≤ p.variables
  back_room = omega (arith, h.sized)

  pub live_alike : is_live p (a ++ more) ≡ is_live p (b ++ more)
  live_alike = TExt (is_live p (a ++ more)) (is_live p (b ++ more)) (then_live p w a b h more room) (then_live p w b a (swapped p a b h) more back_room)

  pub sets_alike : (x : ℕ) → length a ≤ x → at (sets_at p (a ++ more)) x ≡ at (sets_at p (b ++ more)) x
  sets_alike x l = go (TDec (is_live p (a ++ more)))
    where
      s : Sized p
      s = well_sized p w

      go : T (is_live p (a ++ more)) ⊎ (T (is_live p (a ++ more)) → ⊥) → at (sets_at p (a ++ more)) x ≡ at (sets_at p (b ++ more)) x
      go (inl t) =
          mask_ext 16 (at (sets_at p (a ++ more)) x) (at (sets_at p (b ++ more)) x) ((sets_at_sets p (a ++ more) s).1 x) ((sets_at_sets p (b ++ more) s).1 x)
          (λ v q. TExt (has (at (sets_at p (a ++ more)) x) v) (has (at (sets_at p (b ++ more)) x) v) (then_has p w a b h more room t x v l)
          (then_has p w b a (swapped p a b h) more back_room (subst T live_alike t) x v (omega (arith, h.sized))))
      go (inr n) =
          let e : is_live p (a ++ more) ≡ false = not_of (is_live p (a ++ more)) n in
          ap (λ (l : List ℕ). at l x) (dead_none p (a ++ more) s e ∙ sym (dead_none p (b ++ more) s (sym live_alike ∙ e)))
