-- One constraint prunes the sets: the stores of the three functions, for scopes of one, two and three variables. Assumes nothing.
use Rattle.model.specs.Kit.{◌≡◌, refl, sym, ap, ap₂, ◌∙◌, subst, Bool, true, false, not, inl, inr, List, [], ◌∷◌, ◌++◌, Memᴰ, Memᴰ-head, Memᴰ-tail, Memᴰ-not_nil, ℕ, suc, ◌+◌, ◌*◌}
use Rattle.model.specs.Kit.{◌^◌, ◌<◌, lt_of_le_of_lt, arith, ℕ_discrete, T, eqb, eqb_refl, lit<, length, set, length-set, bit_and, bit_or, and_le_l, eq-eqb, ne_eqb}
use Rattle.model.specs.Lists.{both, either, any, at, same, ascending}
use Rattle.model.specs.{ValueSets.has, ValueSets.lowest_of, ValueSets.one_if, Problem.Constraint, Search.supported, Inner.Pruning.Sets}
use Rattle.model.proofs.{Lists.T_of, Lists.of_T, Lists.of_not, Lists.any_i, Lists.any_e, Lists.among_i, Lists.among_e, Lists.same_eq, Lists.same_refl, Lists.Sorted, Lists.ascending_sorted}
use Rattle.model.proofs.{Lists.at_set, Lists.at_set_other, Lists.set_at, Lists.both_true, Lists.both_false, Lists.at_small_1, Lists.at_small_2, Sets.has_lt, Sets.mask_i, Sets.mask_e, Sets.member}
use Rattle.model.proofs.{Sets.set_sets, Masks.has_or, Masks.has_one_if, Members.either_no, Members.rest_begin, Members.has_0, Members.and_i, Members.and_e, Members.lowest_left}
use Rattle.arrays.specs.Inner.Layout.{place}
use Rattle.std.specs.Prelude.{Option, None, Some}
use Rattle.prune_constraints.specs.Inner.Revised.{revised, Emptied, Pruned, Revision}
use Rattle.prune_constraints.specs.Inner.Steps.{OneValue, Together, Supported2, Together3, Supported3, Scoped, SetEmptied, SetStored, SetCut}
use Rattle.prune_constraints.proofs.Rows.{RowIn, PairIn, alive, pair_has, supported_e, supported_i, supported_out, revised_is}
use Rattle.prune_constraints.proofs.{Unions.single, Unions.supported3_none}

-- ---- the sets that changed
abbrev pub Moves : List ℕ → List ℕ → ℕ → Type 0
Moves ds es changed = (i : ℕ) → has changed i ≡ not (eqb (at es i) (at ds i))

one_here : (b : Bool) (x : ℕ) → has (one_if b x) x ≡ b
one_here b x = has_one_if b x x ∙ ap (both b) (of_T (eqb x x) (eqb_refl x)) ∙ both_true b

one_there : (b : Bool) (x i : ℕ) → (i ≡ x → ⊥) → has (one_if b x) i ≡ false
one_there b x i n = has_one_if b x i ∙ ap (both b) (ne_eqb i x n) ∙ both_false b

still : (a b : ℕ) → a ≡ b → not (eqb a b) ≡ false
still a b e = ap not (eq-eqb a b e)

moves_one : (ds : List ℕ) (x b m : ℕ) → m ≡ one_if (not (eqb b (at ds x))) x → x < length ds → Moves ds (set ds x b) m
moves_one ds x b m q h i = ap (λ (n : ℕ). has n i) q ∙ go (ℕ_discrete i x)
  where
    go : Dec (i ≡ x) → has (one_if (not (eqb b (at ds x))) x) i ≡ not (eqb (at (set ds x b) i) (at ds i))
    go (yes e) =
        subst (λ (z : ℕ). has (one_if (not (eqb b (at ds x))) x) z ≡ not (eqb (at (set ds x b) z) (at ds z))) (sym e)
        (one_here (not (eqb b (at ds x))) x ∙ ap (λ (z : ℕ). not (eqb z (at ds x))) (sym (at_set ds x b h)))
    go (no n) = one_there (not (eqb b (at ds x))) x i n ∙ sym (still (at (set ds x b) i) (at ds i) (at_set_other ds x b i n))

pub moves_more : (ds es : List ℕ) (m y b o : ℕ) → o ≡ one_if (not (eqb b (at ds y))) y → Moves ds es m → y < length es → at es y ≡ at ds y → Moves ds (set es y b) (bit_or m o)
moves_more ds es m y b o f h l e i = has_or m o i ∙ ap (λ (n : ℕ). either (has m i) (has n i)) f ∙ go (ℕ_discrete i y)
  where
    go : Dec (i ≡ y) → either (has m i) (has (one_if (not (eqb b (at ds y))) y) i) ≡ not (eqb (at (set es y b) i) (at ds i))
    go (yes q) =
        subst (λ (z : ℕ). either (has m z) (has (one_if (not (eqb b (at ds y))) y) z) ≡ not (eqb (at (set es y b) z) (at ds z))) (sym q)
        (ap₂ either (h y ∙ still (at es y) (at ds y) e) (one_here (not (eqb b (at ds y))) y) ∙ ap (λ (z : ℕ). not (eqb z (at ds y))) (sym (at_set es y b l)))
    go (no n) = ap₂ either (h i) (one_there (not (eqb b (at ds y))) y i n) ∙ either_no (not (eqb (at es i) (at ds i))) ∙ ap (λ (z : ℕ). not (eqb z (at ds i))) (sym (at_set_other es y b i n))

-- ---- the sets are those that the constraint leaves, by its rows
module _ (c : Constraint) (ds : List ℕ) (s : Sets 16 ds) (o : T (ascending c.scope)) where
  by_rows : (es : List ℕ) → Sets 16 es → ((y : ℕ) → (Memᴰ y c.scope → ⊥) → at es y ≡ at ds y) →
      ((r : List ℕ) → Memᴰ r c.rows → RowIn ds c.scope r → RowIn es c.scope r) →
      ((y v : ℕ) → Memᴰ y c.scope → T (has (at es y) v) → (r : List ℕ) × Memᴰ r c.rows × RowIn ds c.scope r × PairIn y v c.scope r) → es ≡ revised ds c
  by_rows es t out keeps comes = revised_is ds c 16 s es t (λ y v h. e y v (any (eqb y) c.scope) refl h) (λ y v h q. i y v (any (eqb y) c.scope) refl h q)
    where
      nowhere : (y : ℕ) → any (eqb y) c.scope ≡ false → Memᴰ y c.scope → ⊥
      nowhere y q m = of_not (any (eqb y) c.scope) q (among_i y c.scope m)

      e : (y v : ℕ) (b : Bool) → any (eqb y) c.scope ≡ b → T (has (at es y) v) → T (has (at ds y) v) × T (supported ds y v c)
      e y v true q h =
          let r = comes y v (among_e y c.scope (T_of (any (eqb y) c.scope) q)) h in
          (pair_has ds c.scope r.0 y v r.2 r.3, supported_i c ds y v (ascending_sorted c.scope o) r.0 r.1 r.2 r.3)
      e y v false q h = (subst (λ (z : ℕ). T (has z v)) (out y (nowhere y q)) h, supported_out c ds y v (nowhere y q))

      i : (y v : ℕ) (b : Bool) → any (eqb y) c.scope ≡ b → T (has (at ds y) v) → T (supported ds y v c) → T (has (at es y) v)
      i y v true q h t =
          let r = supported_e c ds y v t (among_e y c.scope (T_of (any (eqb y) c.scope) q)) in
          pair_has es c.scope r.0 y v (keeps r.0 r.1 r.2) r.3
      i y v false q h t = subst (λ (z : ℕ). T (has z v)) (sym (out y (nowhere y q))) h

-- the same where the scope is known
module _ {c : Constraint} {supports : List ℕ} {k : ℕ} {scope : List ℕ} (p : Scoped c supports k scope) (ds : List ℕ) (s : Sets 16 ds) where
  -- what a value left comes from
  abbrev Comes : ℕ → ℕ → List ℕ → Type 0
  Comes y v z = (r : List ℕ) × Memᴰ r c.rows × RowIn ds z r × PairIn y v z r

  by_scope : (es : List ℕ) → Sets 16 es → ((y : ℕ) → (Memᴰ y scope → ⊥) → at es y ≡ at ds y) → ((r : List ℕ) → Memᴰ r c.rows → RowIn ds scope r → RowIn es scope r) →
      ((y v : ℕ) → Memᴰ y scope → T (has (at es y) v) → Comes y v scope) → es ≡ revised ds c
  by_scope es t out keeps comes =
      by_rows c ds s (subst (λ (z : List ℕ). T (ascending z)) (sym p.is) p.ordered) es t
      (λ y n. out y (λ m. n (subst (λ (z : List ℕ). Memᴰ y z) (sym p.is) m)))
      (λ r m i. subst (λ (z : List ℕ). RowIn es z r) (sym p.is) (keeps r m (subst (λ (z : List ℕ). RowIn ds z r) p.is i)))
      (λ y v m h. subst (Comes y v) (sym p.is) (comes y v (subst (λ (z : List ℕ). Memᴰ y z) p.is m) h))

  -- a variable of the scope is below the number of sets
  here : (x : ℕ) → Memᴰ x scope → x < length ds
  here x m = omega (arith, p.inside x m, s.0)

-- ---- a revision from its parts
-- the set of x is cut to b, which is t
pub cut_dead : (ds : List ℕ) (t b : ℕ) → b ≡ t → b ≡ 0 → SetEmptied ds ds t
cut_dead ds t b q e = record { ended = sym q ∙ e; kept = refl }

pub cut_live : (ds : List ℕ) (x t b r : ℕ) → b ≡ t → (b ≡ 0 → ⊥) → r ≡ one_if (not (eqb b (at ds x))) x → SetStored ds (set ds x b) x t r
cut_live ds x t b r q n e = subst (λ (z : ℕ). SetStored ds (set ds x b) x z r) q record { full = n; stored = refl; moved = e }

module _ {c : Constraint} {supports : List ℕ} {k : ℕ} {scope : List ℕ} (p : Scoped c supports k scope) (ds : List ℕ) (s : Sets 16 ds) where
  of_c : (x : ℕ) → Memᴰ x scope → Memᴰ x c.scope
  of_c x m = subst (λ (z : List ℕ). Memᴰ x z) (sym p.is) m

  sorted : Sorted (λ (x y : ℕ). x < y) c.scope
  sorted = ascending_sorted c.scope (subst (λ (z : List ℕ). T (ascending z)) (sym p.is) p.ordered)

  all_full : (y : ℕ) → Memᴰ y scope → (es : List ℕ) → es ≡ revised ds c → (at es y ≡ 0 → ⊥) → (x : ℕ) → Memᴰ x c.scope → at es x ≡ 0 → ⊥
  all_full y m es e n x i z = alive ds c s.1 sorted y (of_c y m) (λ q. n (ap (λ (l : List ℕ). at l y) e ∙ q)) x i (sym (ap (λ (l : List ℕ). at l x) e) ∙ z)

  -- the sets are stored, and that of y is not empty
  live : (y : ℕ) → Memᴰ y scope → (es : List ℕ) (r : ℕ) → es ≡ revised ds c → (at es y ≡ 0 → ⊥) → Moves ds es r → Pruned c ds es r
  live y m es r e n h = record { sets = e; full = all_full y m es e n; moved = h }

  -- nothing is stored, since that of y would be empty
  dead : (y : ℕ) → Memᴰ y scope → (es : List ℕ) → es ≡ revised ds c → at es y ≡ 0 → Emptied c ds ds
  dead y m es e z = record { ended = (y, of_c y m, sym (ap (λ (l : List ℕ). at l y) e) ∙ z); kept = refl }

  -- the set of y alone is cut to t
  cut : (y t : ℕ) → Memᴰ y scope → (es : List ℕ) (r : Option ℕ) → SetCut ds es y t r → (t ≡ 0 → at (revised ds c) y ≡ 0) → ((t ≡ 0 → ⊥) → set ds y t ≡ revised ds c) → Revision c ds es r
  cut y t m es None u z e = record { ended = (y, of_c y m, z u.ended); kept = u.kept }
  cut y t m es (Some r) u z e =
      live y m es r (u.stored ∙ e u.full) (λ q. u.full (sym (ap (λ (l : List ℕ). at l y) u.stored ∙ at_set ds y t (here p ds s y m)) ∙ q))
      (subst (λ (l : List ℕ). Moves ds l r) (sym u.stored) (moves_one ds y t r u.moved (here p ds s y m)))

-- ---- the table
module _ {c : Constraint} {supports : List ℕ} {k : ℕ} {scope : List ℕ} (p : Scoped c supports k scope) (vs : List ℕ) (l : suc (length vs) ≡ length scope)
    (b : (i : ℕ) → i < length vs → at vs i < 16) (a : ℕ) (e : a ≡ 256 * k + place vs) where
  table_e : (w : ℕ) → T (has (at supports a) w) → Memᴰ (vs ++ (w ∷ [])) c.rows
  table_e w t =
      let q = mask_e (λ v. any (same (vs ++ (v ∷ []))) c.rows) w (subst (λ (m : ℕ). T (has m w)) (ap (at supports) e ∙ p.table vs l b) t) in
      let r = any_e (same (vs ++ (w ∷ []))) c.rows q.1 in
      subst (λ (z : List ℕ). Memᴰ z c.rows) (sym (same_eq (vs ++ (w ∷ [])) r.0 r.2)) r.1

  table_i : (w : ℕ) → w < 16 → Memᴰ (vs ++ (w ∷ [])) c.rows → T (has (at supports a) w)
  table_i w h m =
      subst (λ (n : ℕ). T (has n w)) (sym (ap (at supports) e ∙ p.table vs l b))
      (mask_i (λ v. any (same (vs ++ (v ∷ []))) c.rows) w h (any_i (same (vs ++ (w ∷ []))) c.rows (vs ++ (w ∷ [])) m (same_refl (vs ++ (w ∷ [])))))

below_0 : (i : ℕ) → i < 0 → at [] i < 16
below_0 i h = absurd (omega arith)

-- ---- a scope of one variable
module _ {c : Constraint} {supports : List ℕ} {k x : ℕ} (p : Scoped c supports k (x ∷ [])) (ds : List ℕ) (s : Sets 16 ds) where
  one_set : set ds x (bit_and (at ds x) (at supports (256 * k))) ≡ revised ds c
  one_set = by_scope p ds s es t out keeps comes
    where
      b : ℕ
      b = bit_and (at ds x) (at supports (256 * k))

      es : List ℕ
      es = set ds x (bit_and (at ds x) (at supports (256 * k)))

      l : x < length ds
      l = here p ds s x (Memᴰ-head refl)

      t : Sets 16 es
      t = set_sets 16 ds x b s (p.inside x (Memᴰ-head refl)) (lt_of_le_of_lt (and_le_l (at ds x) (at supports (256 * k))) (s.1 x))

      out : (y : ℕ) → (Memᴰ y (x ∷ []) → ⊥) → at es y ≡ at ds y
      out y n = at_set_other ds x b y (λ e. n (Memᴰ-head e))

      base : 256 * k ≡ 256 * k + 0
      base = omega arith

      keeps : (r : List ℕ) → Memᴰ r c.rows → RowIn ds (x ∷ []) r → RowIn es (x ∷ []) r
      keeps [] m i = i
      keeps (v ∷ []) m i = (
        subst (λ (z : ℕ). T (has z v)) (sym (at_set ds x b l))
            (and_i (at ds x) (at supports (256 * k)) v i.0 (table_i p [] refl below_0 (256 * k) base v (has_lt 16 (at ds x) v (s.1 x) i.0) m)),
        tt,
      )
      keeps (v ∷ w ∷ r) m i = absurd i.1

      comes : (y v : ℕ) → Memᴰ y (x ∷ []) → T (has (at es y) v) → Comes p ds s y v (x ∷ [])
      comes y v (Memᴰ-head e) h =
          let q = and_e (at ds x) (at supports (256 * k)) v (subst (λ (z : ℕ). T (has z v)) (ap (at es) e ∙ at_set ds x b l) h) in
          (v ∷ [], table_e p [] refl below_0 (256 * k) base v q.1, (q.0, tt), inl (e, refl))
      comes y v (Memᴰ-tail m) h = absurd (Memᴰ-not_nil m)

  pub one : (es : List ℕ) (r : Option ℕ) → SetCut ds es x (bit_and (at ds x) (at supports (256 * k))) r → Revision c ds es r
  one es r u =
      cut p ds s x t (Memᴰ-head refl) es r u (λ z. sym (ap (λ (l : List ℕ). at l x) one_set) ∙ at_set ds x t (here p ds s x (Memᴰ-head refl)) ∙ z) (λ n. one_set)
    where
      t : ℕ
      t = bit_and (at ds x) (at supports (256 * k))

-- ---- a scope of two variables
module _ {c : Constraint} {supports : List ℕ} {k x y : ℕ} (p : Scoped c supports k (x ∷ y ∷ [])) (ds : List ℕ) (s : Sets 16 ds) (first last : ℕ) (f : first < 2 ^ 16) (g : last < 2 ^ 16)
    (j : Supported2 supports (256 * k) (at ds x) (at ds y) first last) where
  abbrev es_2 : List ℕ
  es_2 = set (set ds x first) y last

  mx_2 : Memᴰ x (x ∷ y ∷ [])
  mx_2 = Memᴰ-head refl

  my_2 : Memᴰ y (x ∷ y ∷ [])
  my_2 = Memᴰ-tail (Memᴰ-head refl)

  x<y_2 : x < y
  x<y_2 = (ascending_sorted (x ∷ y ∷ []) p.ordered).0 y (Memᴰ-head refl)

  lx_2 : x < length ds
  lx_2 = here p ds s x mx_2

  ly_2 : y < length (set ds x first)
  ly_2 = subst (λ (n : ℕ). y < n) (sym (length-set ds x first)) (here p ds s y my_2)

  at_x_2 : at es_2 x ≡ first
  at_x_2 = at_set_other (set ds x first) y last x (λ e. omega (arith, x<y_2, e)) ∙ at_set ds x first lx_2

  at_y_2 : at es_2 y ≡ last
  at_y_2 = at_set (set ds x first) y last ly_2

  two_sets : set (set ds x first) y last ≡ revised ds c
  two_sets = by_scope p ds s es_2 t out keeps comes
    where
      t : Sets 16 es_2
      t = set_sets 16 (set ds x first) y last (set_sets 16 ds x first s (p.inside x mx_2) f) (p.inside y my_2) g

      out : (z : ℕ) → (Memᴰ z (x ∷ y ∷ []) → ⊥) → at es_2 z ≡ at ds z
      out z n = at_set_other (set ds x first) y last z (λ e. n (Memᴰ-tail (Memᴰ-head e))) ∙ at_set_other ds x first z (λ e. n (Memᴰ-head e))

      together_e : (v w : ℕ) → Together supports (256 * k) (at ds x) (at ds y) v w → Memᴰ (v ∷ w ∷ []) c.rows × RowIn ds (x ∷ y ∷ []) (v ∷ w ∷ [])
      together_e v w q = (table_e p (v ∷ []) refl (at_small_1 v (has_lt 16 (at ds x) v (s.1 x) q.0)) (256 * k + v) refl w q.2, (q.0, (q.1, tt)))

      keeps : (r : List ℕ) → Memᴰ r c.rows → RowIn ds (x ∷ y ∷ []) r → RowIn es_2 (x ∷ y ∷ []) r
      keeps [] m i = i
      keeps (v ∷ []) m i = absurd i.1
      keeps (v ∷ w ∷ []) m i =
          let bv = has_lt 16 (at ds x) v (s.1 x) i.0 in
          let q : Together supports (256 * k) (at ds x) (at ds y) v w = (i.0, i.1.0, table_i p (v ∷ []) refl (at_small_1 v bv) (256 * k + v) refl w (has_lt 16 (at ds y) w (s.1 y) i.1.0) m) in
          (subst (λ (z : ℕ). T (has z v)) (sym at_x_2) (j.first_i v w q), (subst (λ (z : ℕ). T (has z w)) (sym at_y_2) (j.last_i v w q), tt))
      keeps (v ∷ w ∷ u ∷ r) m i = absurd i.1.1

      comes : (z v : ℕ) → Memᴰ z (x ∷ y ∷ []) → T (has (at es_2 z) v) → Comes p ds s z v (x ∷ y ∷ [])
      comes z v (Memᴰ-head e) h =
          let q = j.first_e v (subst (λ (n : ℕ). T (has n v)) (ap (at es_2) e ∙ at_x_2) h) in
          let r = together_e v q.0 q.1 in
          (v ∷ q.0 ∷ [], r.0, r.1, inl (e, refl))
      comes z w (Memᴰ-tail (Memᴰ-head e)) h =
          let q = j.last_e w (subst (λ (n : ℕ). T (has n w)) (ap (at es_2) e ∙ at_y_2) h) in
          let r = together_e q.0 w q.1 in
          (q.0 ∷ w ∷ [], r.0, r.1, inr (inl (e, refl)))
      comes z v (Memᴰ-tail (Memᴰ-tail m)) h = absurd (Memᴰ-not_nil m)

  pub two : (m n : ℕ) → m ≡ one_if (not (eqb first (at ds x))) x → n ≡ one_if (not (eqb last (at ds y))) y → (last ≡ 0 → ⊥) → Pruned c ds (set (set ds x first) y last) (bit_or m n)
  two m n q o e =
      live p ds s y my_2 (set (set ds x first) y last) (bit_or m n) two_sets (λ z. e (sym at_y_2 ∙ z))
      (moves_more ds (set ds x first) m y last n o (moves_one ds x first m q lx_2) ly_2 (at_set_other ds x first y (λ e. omega (arith, x<y_2, e))))

  pub two_dead : last ≡ 0 → Emptied c ds ds
  two_dead e = dead p ds s y my_2 (set (set ds x first) y last) two_sets (at_y_2 ∙ e)

-- ---- a scope of three variables
module _ {c : Constraint} {supports : List ℕ} {k x y z : ℕ} (p : Scoped c supports k (x ∷ y ∷ z ∷ [])) (ds : List ℕ) (s : Sets 16 ds) (first second last : ℕ) (f : first < 2 ^ 16)
    (g : second < 2 ^ 16) (h : last < 2 ^ 16)
    (j : Supported3 (Together3 supports (256 * k) (at ds x) (at ds y) (at ds z)) first second last) where
  abbrev fs_3 : List ℕ
  fs_3 = set (set ds x first) y second

  abbrev es_3 : List ℕ
  es_3 = set (set (set ds x first) y second) z last

  mx_3 : Memᴰ x (x ∷ y ∷ z ∷ [])
  mx_3 = Memᴰ-head refl

  my_3 : Memᴰ y (x ∷ y ∷ z ∷ [])
  my_3 = Memᴰ-tail (Memᴰ-head refl)

  mz_3 : Memᴰ z (x ∷ y ∷ z ∷ [])
  mz_3 = Memᴰ-tail (Memᴰ-tail (Memᴰ-head refl))

  x<y_3 : x < y
  x<y_3 = (ascending_sorted (x ∷ y ∷ z ∷ []) p.ordered).0 y (Memᴰ-head refl)

  y<z_3 : y < z
  y<z_3 = (ascending_sorted (x ∷ y ∷ z ∷ []) p.ordered).1.0 z (Memᴰ-head refl)

  lx_3 : x < length ds
  lx_3 = here p ds s x mx_3

  ly_3 : y < length (set ds x first)
  ly_3 = subst (λ (n : ℕ). y < n) (sym (length-set ds x first)) (here p ds s y my_3)

  lz_3 : z < length fs_3
  lz_3 = subst (λ (n : ℕ). z < n) (sym (length-set (set ds x first) y second ∙ length-set ds x first)) (here p ds s z mz_3)

  at_x_3 : at es_3 x ≡ first
  at_x_3 = at_set_other fs_3 z last x (λ e. omega (arith, x<y_3, y<z_3, e)) ∙ at_set_other (set ds x first) y second x (λ e. omega (arith, x<y_3, e)) ∙ at_set ds x first lx_3

  at_y_3 : at es_3 y ≡ second
  at_y_3 = at_set_other fs_3 z last y (λ e. omega (arith, y<z_3, e)) ∙ at_set (set ds x first) y second ly_3

  at_z_3 : at es_3 z ≡ last
  at_z_3 = at_set fs_3 z last lz_3

  three_sets : set (set (set ds x first) y second) z last ≡ revised ds c
  three_sets = by_scope p ds s es_3 t out keeps comes
    where
      t : Sets 16 es_3
      t = set_sets 16 fs_3 z last (set_sets 16 (set ds x first) y second (set_sets 16 ds x first s (p.inside x mx_3) f) (p.inside y my_3) g) (p.inside z mz_3) h

      out : (i : ℕ) → (Memᴰ i (x ∷ y ∷ z ∷ []) → ⊥) → at es_3 i ≡ at ds i
      out i n =
          at_set_other fs_3 z last i (λ e. n (Memᴰ-tail (Memᴰ-tail (Memᴰ-head e)))) ∙ at_set_other (set ds x first) y second i (λ e. n (Memᴰ-tail (Memᴰ-head e)))
          ∙ at_set_other ds x first i (λ e. n (Memᴰ-head e))

      base : (u v : ℕ) → 256 * k + 16 * u + v ≡ 256 * k + (16 * u + v)
      base u v = omega arith

      together_e : (u v w : ℕ) → Together3 supports (256 * k) (at ds x) (at ds y) (at ds z) u v w → Memᴰ (u ∷ v ∷ w ∷ []) c.rows × RowIn ds (x ∷ y ∷ z ∷ []) (u ∷ v ∷ w ∷ [])
      together_e u v w q = (
        table_e p (u ∷ v ∷ []) refl (at_small_2 u v (has_lt 16 (at ds x) u (s.1 x) q.0) (has_lt 16 (at ds y) v (s.1 y) q.1.0)) (256 * k + 16 * u + v) (base u v) w q.1.2,
        (q.0, (q.1.0, (q.1.1, tt))),
      )

      keeps : (r : List ℕ) → Memᴰ r c.rows → RowIn ds (x ∷ y ∷ z ∷ []) r → RowIn es_3 (x ∷ y ∷ z ∷ []) r
      keeps [] m i = i
      keeps (u ∷ []) m i = absurd i.1
      keeps (u ∷ v ∷ []) m i = absurd i.1.1
      keeps (u ∷ v ∷ w ∷ []) m i =
          let bu = has_lt 16 (at ds x) u (s.1 x) i.0 in
          let bv = has_lt 16 (at ds y) v (s.1 y) i.1.0 in
          let q : Together3 supports (256 * k) (at ds x) (at ds y) (at ds z) u v w =
          (i.0, (i.1.0, i.1.1.0, table_i p (u ∷ v ∷ []) refl (at_small_2 u v bu bv) (256 * k + 16 * u + v) (base u v) w (has_lt 16 (at ds z) w (s.1 z) i.1.1.0) m)) in (
            subst (λ (n : ℕ). T (has n u)) (sym at_x_3) (j.first_i u v w q),
            (
              subst (λ (n : ℕ). T (has n v)) (sym at_y_3) (j.second_i u v w q),
              (subst (λ (n : ℕ). T (has n w)) (sym at_z_3) (j.last_i u v w q), tt),
            ),
          )
      keeps (u ∷ v ∷ w ∷ o ∷ r) m i = absurd i.1.1.1

      comes : (i v : ℕ) → Memᴰ i (x ∷ y ∷ z ∷ []) → T (has (at es_3 i) v) → Comes p ds s i v (x ∷ y ∷ z ∷ [])
      comes i u (Memᴰ-head e) q =
          let a = j.first_e u (subst (λ (n : ℕ). T (has n u)) (ap (at es_3) e ∙ at_x_3) q) in
          let r = together_e u a.0 a.1.0 a.1.1 in
          (u ∷ a.0 ∷ a.1.0 ∷ [], r.0, r.1, inl (e, refl))
      comes i v (Memᴰ-tail (Memᴰ-head e)) q =
          let a = j.second_e v (subst (λ (n : ℕ). T (has n v)) (ap (at es_3) e ∙ at_y_3) q) in
          let r = together_e a.0 v a.1.0 a.1.1 in
          (a.0 ∷ v ∷ a.1.0 ∷ [], r.0, r.1, inr (inl (e, refl)))
      comes i w (Memᴰ-tail (Memᴰ-tail (Memᴰ-head e))) q =
          let a = j.last_e w (subst (λ (n : ℕ). T (has n w)) (ap (at es_3) e ∙ at_z_3) q) in
          let r = together_e a.0 a.1.0 w a.1.1 in
          (a.0 ∷ a.1.0 ∷ w ∷ [], r.0, r.1, inr (inr (inl (e, refl))))
      comes i v (Memᴰ-tail (Memᴰ-tail (Memᴰ-tail m))) q = absurd (Memᴰ-not_nil m)

  pub three : (m n i : ℕ) → m ≡ one_if (not (eqb first (at ds x))) x → n ≡ one_if (not (eqb second (at ds y))) y → i ≡ one_if (not (eqb last (at ds z))) z → (last ≡ 0 → ⊥) →
      Pruned c ds (set (set (set ds x first) y second) z last) (bit_or (bit_or m n) i)
  three m n i q o a e =
      live p ds s z mz_3 (set (set (set ds x first) y second) z last) (bit_or (bit_or m n) i) three_sets (λ t. e (sym at_z_3 ∙ t))
      (moves_more ds (set (set ds x first) y second) (bit_or m n) z last i a
      (moves_more ds (set ds x first) m y second n o (moves_one ds x first m q lx_3) ly_3 (at_set_other ds x first y (λ e. omega (arith, x<y_3, e)))) lz_3
      (at_set_other (set ds x first) y second z (λ e. omega (arith, y<z_3, e)) ∙ at_set_other ds x first z (λ e. omega (arith, x<y_3, y<z_3, e))))

  -- nothing is lost
  pub three_same : first ≡ at ds x → second ≡ at ds y → last ≡ at ds z → (last ≡ 0 → ⊥) → Pruned c ds ds 0
  three_same i o a e =
      subst (λ (l : List ℕ). Pruned c ds l 0)
      (ap (λ (v : ℕ). set (set (set ds x v) y second) z last) i ∙ ap (λ (l : List ℕ). set (set l y second) z last) (set_at ds x) ∙ ap (λ (v : ℕ). set (set ds y v) z last) o
      ∙ ap (λ (l : List ℕ). set l z last) (set_at ds y) ∙ ap (set ds z) a ∙ set_at ds z)
      (three 0 0 0 (none first (at ds x) x i) (none second (at ds y) y o) (none last (at ds z) z a) e)
    where
      none : (v w u : ℕ) → v ≡ w → 0 ≡ one_if (not (eqb v w)) u
      none v w u q = sym (ap (λ (b : Bool). one_if (not b) u) (eq-eqb v w q))

  pub three_dead : last ≡ 0 → Emptied c ds ds
  three_dead e = dead p ds s z mz_3 (set (set (set ds x first) y second) z last) three_sets (at_z_3 ∙ e)

-- the first set stays as it is
module _ {c : Constraint} {supports : List ℕ} {k x y z : ℕ} (p : Scoped c supports k (x ∷ y ∷ z ∷ [])) (ds : List ℕ) (s : Sets 16 ds) (second last : ℕ) (g : second < 2 ^ 16) (h : last < 2 ^ 16)
    (j : Supported3 (Together3 supports (256 * k) (at ds x) (at ds y) (at ds z)) (at ds x) second last) where
  pub three_rest : (n i : ℕ) → n ≡ one_if (not (eqb second (at ds y))) y → i ≡ one_if (not (eqb last (at ds z))) z → (last ≡ 0 → ⊥) → Pruned c ds (set (set ds y second) z last) (bit_or n i)
  three_rest n i o a e =
      subst (λ (l : List ℕ). Pruned c ds (set (set l y second) z last) (bit_or n i)) (set_at ds x)
      (three p ds s (at ds x) second last (s.1 x) g h j 0 n i (sym (ap (λ (b : Bool). one_if (not b) x) (eq-eqb (at ds x) (at ds x) refl))) o a e)

-- ---- two of three sets have one value: one set of the table cuts the third
module _ {c : Constraint} {supports : List ℕ} {k x y z : ℕ} (p : Scoped c supports k (x ∷ y ∷ z ∷ [])) (ds : List ℕ) (s : Sets 16 ds) (o : OneValue (at ds x)) (q : OneValue (at ds y)) where
  abbrev u : ℕ
  u = lowest_of (at ds x)

  abbrev v : ℕ
  v = lowest_of (at ds y)

  abbrev t : ℕ
  t = bit_and (at ds z) (at supports (256 * k + 16 * lowest_of (at ds x) + lowest_of (at ds y)))

  abbrev M : ℕ → ℕ → ℕ → Type 0
  M = Together3 supports (256 * k) (at ds x) (at ds y) (at ds z)

  is_u : (i : ℕ) → T (has (at ds x) i) → i ≡ u
  is_u = single (at ds x) (s.1 x) o

  is_v : (i : ℕ) → T (has (at ds y) i) → i ≡ v
  is_v = single (at ds y) (s.1 y) q

  pub u_has : T (has (at ds x) (lowest_of (at ds x))) × (lowest_of (at ds x) < 16)
  u_has = lowest_left (at ds x) (at ds x) _ (rest_begin 16 (at ds x) (s.1 x)) o.some refl

  pub v_has : T (has (at ds y) (lowest_of (at ds y))) × (lowest_of (at ds y) < 16)
  v_has = lowest_left (at ds y) (at ds y) _ (rest_begin 16 (at ds y) (s.1 y)) q.some refl

  together_i : (w : ℕ) → T (has t w) → M u v w
  together_i w h = let q = and_e (at ds z) (at supports (256 * k + 16 * u + v)) w h in (u_has.0, (v_has.0, q.0, q.1))

  together_e : (a b w : ℕ) → M a b w → T (has t w)
  together_e a b w q =
      and_i (at ds z) (at supports (256 * k + 16 * u + v)) w q.1.1
      (subst (λ (i : ℕ). T (has (at supports (256 * k + 16 * i + v)) w)) (is_u a q.0) (subst (λ (i : ℕ). T (has (at supports (256 * k + 16 * a + i)) w)) (is_v b q.1.0) q.1.2))

  none : t ≡ 0 → Supported3 M 0 0 0
  none e = supported3_none never
    where
      never : (a b w : ℕ) → M a b w → ⊥
      never a b w q = has_0 w (subst (λ (n : ℕ). T (has n w)) e (together_e a b w q))

  some : (t ≡ 0 → ⊥) → Supported3 M (at ds x) (at ds y) t
  some n = record {
    first_i = λ a b w q. q.0;
    first_e = λ a q. (v, (w, subst (λ (i : ℕ). M i v w) (sym (is_u a q)) m));
    second_i = λ a b w q. q.1.0;
    second_e = λ b q. (u, (w, subst (λ (i : ℕ). M u i w) (sym (is_v b q)) m));
    last_i = together_e;
    last_e = λ i q. (u, (v, together_i i q));
  }
    where
      w : ℕ
      w = (member t (lt_of_le_of_lt (and_le_l (at ds z) (at supports (256 * k + 16 * u + v))) (s.1 z)) n).0

      m : M u v w
      m = together_i w (member t (lt_of_le_of_lt (and_le_l (at ds z) (at supports (256 * k + 16 * u + v))) (s.1 z)) n).2

  pub three_last : (i : ℕ) → i ≡ 256 * k + 16 * lowest_of (at ds x) + lowest_of (at ds y) → (es : List ℕ) (r : Option ℕ) → SetCut ds es z (bit_and (at ds z) (at supports i)) r → Revision c ds es r
  three_last i f es r a =
      cut p ds s z t mz es r (subst (λ (n : ℕ). SetCut ds es z (bit_and (at ds z) (at supports n)) r) f a)
      (λ e. sym (ap (λ (l : List ℕ). at l z) (three_sets p ds s 0 0 0 (lit< tt) (lit< tt) (lit< tt) (none e))) ∙ at_z_3 p ds s 0 0 0 (lit< tt) (lit< tt) (lit< tt) (none e))
      (λ n. ap (λ (l : List ℕ). set l z t) (sym same) ∙ three_sets p ds s (at ds x) (at ds y) t (s.1 x) (s.1 y)
      (lt_of_le_of_lt (and_le_l (at ds z) (at supports (256 * k + 16 * u + v))) (s.1 z)) (some n))
    where
      mz : Memᴰ z (x ∷ y ∷ z ∷ [])
      mz = Memᴰ-tail (Memᴰ-tail (Memᴰ-head refl))

      same : set (set ds x (at ds x)) y (at ds y) ≡ ds
      same = ap (λ (l : List ℕ). set l y (at ds y)) (set_at ds x) ∙ set_at ds y
