-- The rows of constraints on two variables, one constraint after another. Assumes nothing.
use Rattle.model.specs.Kit.{◌≡◌, refl, sym, ap, ◌∙◌, subst, Bool, true, false, not, List, [], ◌∷◌, Memᴰ, Memᴰ-head, Memᴰ-tail, ℕ, zero, suc, ◌+◌, ◌*◌, ◌%◌, ◌^◌, ◌≤◌, ◌<◌, mod-eq_of_lt}
use Rattle.model.specs.Kit.{lt_of_le_of_lt, arith, ℕ_discrete, T, eqb, ltb, leb, length, bit_and, pow-lt, eqb-true, eq-eqb, ne_eqb, lt-ltb, le-ltb, le-leb, lt-leb, leb-true, leb-false, ltb-true}
use Rattle.model.specs.Kit.{ltb-false}
use Rattle.model.specs.{Lists.any, Lists.at, Lists.same, Lists.both, Lists.either, ValueSets.has, ValueSets.mask_of, ValueSets.common_mask, Problem.Problem, Problem.constraint_at}
use mathlib.Core.Path.{fun_ext}
use lib.Dec.{leb-zero}
use lib.Bits.{and_le_r}
use lib.Pow.{pow_mono}
use Rattle.model.specs.Inner.Filling.{Filled, Gathered}
use Rattle.model.proofs.{Lists.T_of, Lists.of_T, Lists.of_not, Lists.list_2, Lists.at_set_other, Lists.both_false, Sets.has_none, Sets.has_out, Sets.pow2, Sets.has_mask, Sets.mask_lt, Sets.mask_ext}
use Rattle.model.proofs.{Masks.has_and, Masks.has_not, Masks.has_one, Masks.is_mask, Members.common_op_r, Filling.gathered_is}
use Rattle.arrays.specs.{Inner.Places.SCOPES, Inner.Places.BY_ROWS, Inner.Places.LOOSE, Inner.Places.SMALLER, Inner.Tables.link_of, Inner.Tables.is_by_rows, Inner.Tables.goes, Inner.Tables.Rows}
use Rattle.arrays.specs.{Inner.Layout.variable_in}
use Rattle.arrays.proofs.Links.{good, scope_order, link_scope, by_rows_link, by_rows_two}
use Rattle.arrays_tables.specs.Inner.Steps.{RowsSource, allowed_to, goes_to, RowsTo}

-- ---- no constraint yet
all_go : (p : Problem) (x v y w : ℕ) → goes_to p 0 x v y w ≡ true
all_go p x v y w = go (ltb x y)
  where
    yes_0 : (k a b : ℕ) → allowed_to p 0 k a b ≡ true
    yes_0 k a b = ap (λ (t : Bool). either t (any (same (a ∷ b ∷ [])) (constraint_at p k).rows)) (leb-zero k)

    go : (t : Bool) → elim t [ true ↦ allowed_to p 0 (link_of p x y) v w | false ↦ allowed_to p 0 (link_of p y x) w v ] ≡ true
    go true = yes_0 (link_of p x y) v w
    go false = yes_0 (link_of p y x) w v

pub rows_begin : (p : Problem) (old new : List ℕ) → Filled (λ i. i) (λ i r. r ≡ 65535) SMALLER old new → RowsTo p 0 new
rows_begin p old new r x v y hx hv hy =
    r.here (256 * x + 16 * v + y) (omega arith)
    ∙ is_mask 65535 (goes_to p 0 x v y) (omega arith) (λ w l. has_not 16 0 w (omega arith) l ∙ ap not (has_none w) ∙ sym (all_go p x v y w))

pub rows_end : (p : Problem) (i : ℕ) (tables : List ℕ) → i ≡ length p.constraints → RowsTo p i tables → Rows p tables
unfolding goes
rows_end p i tables e r x v y hx hv hy = r x v y hx hv hy ∙ ap (λ (n : ℕ). mask_of (goes_to p n x v y)) e

-- ---- a constraint that the two variables do not have
other_link : (i k : ℕ) → (k ≡ i → ⊥) → leb i k ≡ leb (i + 1) k
other_link i k n = go (leb i k) refl
  where
    go : (t : Bool) → leb i k ≡ t → leb i k ≡ leb (i + 1) k
    go true e = let l = leb-true i k e in e ∙ sym (le-leb (i + 1) k (omega arith))
    go false e = let l = leb-false i k e in e ∙ sym (lt-leb (i + 1) k (omega arith))

-- sixteen sets that were copied out
pub across_from : (slot : ℕ → ℕ) (base : ℕ) (sets supports old new : List ℕ) → ((v : ℕ) → v < 16 → at sets v ≡ at supports (base + v)) →
    Filled slot (λ v r. r ≡ at sets v) 16 old new → Filled slot (λ v r. r ≡ at supports (base + v)) 16 old new
across_from slot base sets supports old new same f = record { size = f.size; here = λ v l. f.here v l ∙ same v l; other = f.other }

pub back_from : (slot : ℕ → ℕ) (base : ℕ) (sets supports old new : List ℕ) → ((v : ℕ) → v < 16 → at sets v ≡ at supports (base + v)) →
    Filled slot (λ w r. r ≡ mask_of (λ v. has (at sets v) w)) 16 old new → Filled slot (λ w r. r ≡ mask_of (λ v. has (at supports (base + v)) w)) 16 old new
back_from slot base sets supports old new same f = record {
  size = f.size;
  here = λ w l. f.here w l ∙ is_mask _ (λ v. has (at supports (base + v)) w) (mask_lt 16 _) (λ v h. has_mask 16 _ v h ∙ ap (λ (n : ℕ). has n w) (same v h));
  other = f.other;
}

goes_other : (p : Problem) (i x v y : ℕ) → (link_of p x y ≡ i → ⊥) → (link_of p y x ≡ i → ⊥) → mask_of (goes_to p i x v y) ≡ mask_of (goes_to p (i + 1) x v y)
goes_other p i x v y m n = ap mask_of (fun_ext (λ w. go w (ltb x y)))
  where
    step : (k a b : ℕ) → (k ≡ i → ⊥) → allowed_to p i k a b ≡ allowed_to p (i + 1) k a b
    step k a b q = ap (λ (t : Bool). either t (any (same (a ∷ b ∷ [])) (constraint_at p k).rows)) (other_link i k q)

    go : (w : ℕ) (t : Bool) →
        ◌≡◌ {A = Bool} (elim t [ true ↦ allowed_to p i (link_of p x y) v w | false ↦ allowed_to p i (link_of p y x) w v ])
        (elim t [ true ↦ allowed_to p (i + 1) (link_of p x y) v w | false ↦ allowed_to p (i + 1) (link_of p y x) w v ])
    go w true = step (link_of p x y) v w m
    go w false = step (link_of p y x) w v n

-- the first constraint on two variables is pruned by variable
not_link : (p : Problem) (i x y : ℕ) → i < length p.constraints → is_by_rows p i ≡ false → link_of p x y ≡ i → ⊥
not_link p i x y h b e =
    let s : (constraint_at p i).scope ≡ x ∷ y ∷ [] = subst (λ (k : ℕ). (constraint_at p k).scope ≡ x ∷ y ∷ []) e (link_scope p x y (omega arith)) in
    of_not (is_by_rows p i) b (T_of _ (by_rows_link p i x y s ∙ eq-eqb (link_of p x y) i e))

pub rows_skip : (p : Problem) (i : ℕ) (tables : List ℕ) → i < length p.constraints → is_by_rows p i ≡ false → RowsTo p i tables → RowsTo p (i + 1) tables
rows_skip p i tables h b r x v y hx hv hy = r x v y hx hv hy ∙ goes_other p i x v y (not_link p i x y h b) (not_link p i y x h b)

-- ---- the values whose sets have w, gathered
-- a set has w where it meets the set of w
pub meets_one : (s w one r : ℕ) → w < 16 → one ≡ 2 ^ w → r ≡ common_mask s one → not (eqb r 0) ≡ has s w
meets_one s w one r l e m = go (has s w) refl
  where
    is : r ≡ bit_and s (2 ^ w)
    is = m ∙ ap (common_mask s) e ∙ sym (common_op_r s (2 ^ w) (pow-lt l))

    go : (b : Bool) → has s w ≡ b → not (eqb r 0) ≡ b
    go true q =
        ap not (ne_eqb r 0 (λ z. of_not (has r w) (ap (λ (n : ℕ). has n w) z ∙ has_none w)
        (T_of (has r w) (ap (λ (n : ℕ). has n w) is ∙ has_and s (2 ^ w) w ∙ ap (λ (b : Bool). both b (has (2 ^ w) w)) q ∙ has_one w w ∙ eq-eqb w w refl))))
    go false q =
        ap not (eq-eqb r 0 (is ∙ mask_ext 16 (bit_and s (2 ^ w)) 0 (lt_of_le_of_lt (and_le_r s (2 ^ w)) (pow-lt l)) (omega arith)
        (λ v k. has_and s (2 ^ w) v ∙ none v (ℕ_discrete v w) ∙ sym (has_none v))))
      where
        none : (v : ℕ) → Dec (v ≡ w) → both (has s v) (has (2 ^ w) v) ≡ false
        none v (yes z) = ap (λ (b : Bool). both b (has (2 ^ w) v)) (ap (has s) z ∙ q)
        none v (no z) = ap (both (has s v)) (has_one w v ∙ ne_eqb v w z) ∙ both_false (has s v)

below_power : (n : ℕ) → n < 2 ^ n
below_power zero = omega arith
below_power (suc n) = omega (arith, below_power n, pow2 n)

pub gathered_mask : (f : ℕ → Bool) (all : ℕ) → Gathered f 16 all → all % 65536 ≡ mask_of f
gathered_mask f all g = ap (λ (n : ℕ). n % 65536) same ∙ mod-eq_of_lt (mask_lt 16 f)
  where
    go : (x : ℕ) (b : Bool) → ltb x 16 ≡ b → has all x ≡ has (mask_of f) x
    go x true e = let l = ltb-true x 16 e in gathered_is f 16 all x g l ∙ sym (has_mask 16 f x l)
    go x false e = g.has_is x ∙ ap (λ (b : Bool). both b (f x)) e ∙ sym (has_out 16 (mask_of f) x (mask_lt 16 f) (ltb-false x 16 e))

    same : all ≡ mask_of f
    same =
        let low : 2 ^ 16 ≤ 2 ^ (16 + all) = pow_mono (let h : 16 ≤ 16 + all = omega arith in h) in
        let high : 2 ^ all ≤ 2 ^ (16 + all) = pow_mono (let h : all ≤ 16 + all = omega arith in h) in
        mask_ext (16 + all) all (mask_of f) (omega (arith, below_power all, high)) (omega (arith, mask_lt 16 f, low)) (λ x l. go x (ltb x 16) refl)

-- ---- a constraint that is pruned by variable
module _ (p : Problem) (numbers supports : List ℕ) (g : RowsSource p numbers supports) (i : ℕ) (h : i < length p.constraints) where
  pub by_rows_is : (b : Bool) → has (at numbers BY_ROWS) i ≡ b → is_by_rows p i ≡ b
  by_rows_is b e = sym (g.linked.by_rows i h) ∙ ap (λ (n : ℕ). has n i) (at_set_other numbers LOOSE 0 BY_ROWS (λ q. omega arith)) ∙ e

  -- its two variables
  pub record TwoVariables (x y : ℕ) : Type 0 where
    pub scope : (constraint_at p i).scope ≡ x ∷ y ∷ []
    pub order : x < y
    pub few : y < 12
    pub link : link_of p x y ≡ i

  pub two_of : T (is_by_rows p i) → (x y : ℕ) → x ≡ variable_in (at numbers (SCOPES + i)) 0 → y ≡ variable_in (at numbers (SCOPES + i)) 1 → TwoVariables x y
  two_of t x y ex ey = record {
    scope = is;
    order = scope_order (constraint_at p i) x y (good g.well_formed i h) is;
    few = (let n = (good g.well_formed i h).inside y (subst (λ (z : List ℕ). Memᴰ y z) (sym is) (Memᴰ-tail (Memᴰ-head refl))) in omega (arith, g.well_formed.few));
    link = eqb-true (link_of p x y) i (sym (by_rows_link p i x y is) ∙ of_T (is_by_rows p i) t);
  }
    where
      l : length (constraint_at p i).scope ≡ 2
      l = by_rows_two p i t

      is : (constraint_at p i).scope ≡ x ∷ y ∷ []
      is = list_2 (constraint_at p i).scope x y l (sym (g.numbered.scope i 0 h (omega (arith, l))) ∙ sym ex) (sym (g.numbered.scope i 1 h (omega (arith, l))) ∙ sym ey)

  module _ (x y : ℕ) (d : TwoVariables x y) where
    -- no other two variables have it
    only : (a b : ℕ) → link_of p a b ≡ i → (a ≡ x) × (b ≡ y)
    unfolding at
    only a b e =
        let s : (constraint_at p i).scope ≡ a ∷ b ∷ [] = subst (λ (k : ℕ). (constraint_at p k).scope ≡ a ∷ b ∷ []) e (link_scope p a b (omega arith)) in
        let q : ◌≡◌ {A = List ℕ} (a ∷ b ∷ []) (x ∷ y ∷ []) = sym s ∙ d.scope in
        (ap (λ (z : List ℕ). at z 0) q, ap (λ (z : List ℕ). at z 1) q)

    -- the support set of a value
    support_is : (v : ℕ) → v < 16 → at supports (256 * i + v) ≡ mask_of (λ w. any (same (v ∷ w ∷ [])) (constraint_at p i).rows)
    unfolding at
    support_is v l = g.supported i h (v ∷ []) (sym (ap length d.scope)) small
      where
        small : (j : ℕ) → j < 1 → at (v ∷ []) j < 16
        small zero m = l
        small (suc j) m = absurd (omega arith)

    past : (v w : ℕ) → allowed_to p (i + 1) (link_of p x y) v w ≡ any (same (v ∷ w ∷ [])) (constraint_at p i).rows
    past v w = ap (λ (k : ℕ). allowed_to p (i + 1) k v w) d.link ∙ ap (λ (t : Bool). either t (any (same (v ∷ w ∷ [])) (constraint_at p i).rows)) (lt-leb (i + 1) i (omega arith))

    goes_there : (v w : ℕ) → goes_to p (i + 1) x v y w ≡ any (same (v ∷ w ∷ [])) (constraint_at p i).rows
    goes_there v w = ap (λ (t : Bool). elim t [ true ↦ allowed_to p (i + 1) (link_of p x y) v w | false ↦ allowed_to p (i + 1) (link_of p y x) w v ]) (lt-ltb x y d.order) ∙ past v w

    goes_back : (v w : ℕ) → goes_to p (i + 1) y v x w ≡ any (same (w ∷ v ∷ [])) (constraint_at p i).rows
    goes_back v w =
        let o : x ≤ y = (let q = d.order in omega arith) in
        ap (λ (t : Bool). elim t [ true ↦ allowed_to p (i + 1) (link_of p y x) v w | false ↦ allowed_to p (i + 1) (link_of p x y) w v ]) (le-ltb y x o) ∙ past w v

    there : (v : ℕ) → v < 16 → at supports (256 * i + v) ≡ mask_of (goes_to p (i + 1) x v y)
    there v l = support_is v l ∙ ap mask_of (sym (fun_ext (goes_there v)))

    over : (v : ℕ) → v < 16 → mask_of (λ u. has (at supports (256 * i + u)) v) ≡ mask_of (goes_to p (i + 1) y v x)
    over v l =
        is_mask (mask_of (λ u. has (at supports (256 * i + u)) v)) (goes_to p (i + 1) y v x) (mask_lt 16 _)
        (λ w m. has_mask 16 (λ u. has (at supports (256 * i + u)) v) w m ∙ ap (λ (n : ℕ). has n v) (support_is w m) ∙ has_mask 16 _ v l ∙ sym (goes_back v w))

    pub rows_turn : (old mid new : List ℕ) → Filled (λ v. 256 * x + y + 16 * v) (λ v r. r ≡ at supports (256 * i + v)) 16 old mid →
        Filled (λ v. 256 * y + x + 16 * v) (λ v r. r ≡ mask_of (λ u. has (at supports (256 * i + u)) v)) 16 mid new → RowsTo p i old → RowsTo p (i + 1) new
    rows_turn old mid new s t r a v b ha hv hb = go (ℕ_discrete a x) (ℕ_discrete b y) (ℕ_discrete a y) (ℕ_discrete b x)
      where
        other : ((a ≡ x) × (b ≡ y) → ⊥) → ((a ≡ y) × (b ≡ x) → ⊥) → at new (256 * a + 16 * v + b) ≡ mask_of (goes_to p (i + 1) a v b)
        other m n =
            t.other (256 * a + 16 * v + b) (λ u l e. n (omega arith, omega arith))
            ∙ s.other (256 * a + 16 * v + b) (λ u l e. m (omega arith, omega arith))
            ∙ r a v b ha hv hb ∙ goes_other p i a v b (λ e. m (only a b e)) (λ e. n (let q = only b a e in (q.1, q.0)))

        here : at new (256 * x + 16 * v + y) ≡ mask_of (goes_to p (i + 1) x v y)
        here =
            let e : 256 * x + 16 * v + y ≡ 256 * x + y + 16 * v = omega arith in
            t.other (256 * x + 16 * v + y) (λ u l q. omega arith) ∙ ap (at mid) e ∙ s.here v hv ∙ there v hv

        back : at new (256 * y + 16 * v + x) ≡ mask_of (goes_to p (i + 1) y v x)
        back =
            let e : 256 * y + 16 * v + x ≡ 256 * y + x + 16 * v = omega arith in
            ap (at new) e ∙ t.here v hv ∙ over v hv

        go : Dec (a ≡ x) → Dec (b ≡ y) → Dec (a ≡ y) → Dec (b ≡ x) → at new (256 * a + 16 * v + b) ≡ mask_of (goes_to p (i + 1) a v b)
        go (yes m) (yes n) c e = subst (λ (z : ℕ). at new (256 * z + 16 * v + b) ≡ mask_of (goes_to p (i + 1) z v b)) (sym m)
            (subst (λ (z : ℕ). at new (256 * x + 16 * v + z) ≡ mask_of (goes_to p (i + 1) x v z)) (sym n) here)
        go (yes m) (no n) c e = other (λ q. n q.1) (λ q. omega arith)
        go (no m) f (yes c) (yes e) = subst (λ (z : ℕ). at new (256 * z + 16 * v + b) ≡ mask_of (goes_to p (i + 1) z v b)) (sym c)
            (subst (λ (z : ℕ). at new (256 * y + 16 * v + z) ≡ mask_of (goes_to p (i + 1) y v z)) (sym e) back)
        go (no m) f (yes c) (no e) = other (λ q. m q.0) (λ q. e q.1)
        go (no m) f (no c) e = other (λ q. m q.0) (λ q. c q.0)
