-- The first two coordinates of a table exchanged, set by set; tables of values below d. Assumes nothing.
use Rattle.model.specs.Kit.{◌≡◌, refl, sym, ap, ◌∙◌, subst, List, ℕ, ◌+◌, ◌*◌, ◌/◌, ◌%◌, ◌≤◌, ◌<◌, ℕ_discrete, dec_lt, arith, length, set, length-set}
use Rattle.model.specs.{Lists.at, ValueSets.has, ValueSets.mask_of}
use Rattle.model.proofs.{Lists.at_set, Lists.at_set_other, Sets.has_none, Sets.has_mask}
use Rattle.arrays_order.specs.Inner.Steps.{Narrow, Crossed, Swapped, Transposed}
use Rattle.arrays_order.proofs.Tables.{mask_none}

-- ---- one value with each below it
module _ (base v : ℕ) (old : List ℕ) where
  pub crossed_begin : Crossed base v 0 old old
  crossed_begin = record { row = λ w l. absurd (omega arith); column = λ w l. absurd (omega arith); other = λ j h k. refl; size = refl }

  pub crossed_end : (i : ℕ) (new : List ℕ) → v ≤ i → i ≤ v → Crossed base v i old new → Crossed base v v old new
  crossed_end i new h k c = let e : i ≡ v = omega arith in subst (λ (z : ℕ). Crossed base v z old new) e c

  module _ (m : ℕ) (mid : List ℕ) (h : m < v) (k : v < 16) (n : base + 256 ≤ length old) (c : Crossed base v m old mid) where
    abbrev p : ℕ
    p = base + (16 * v + m)

    abbrev q : ℕ
    q = base + (16 * m + v)

    abbrev new : List ℕ
    new = set (set mid p (at mid q)) q (at mid p)

    away : (j : ℕ) → (j ≡ q → ⊥) → (j ≡ p → ⊥) → at new j ≡ at mid j
    away j f g = at_set_other (set mid p (at mid q)) q (at mid p) j f ∙ at_set_other mid p (at mid q) j g

    row : (w : ℕ) → w < m + 1 → Dec (w ≡ m) → at new (base + (16 * v + w)) ≡ at old (base + (16 * w + v))
    row w l (yes e) = subst (λ (z : ℕ). at new (base + (16 * v + z)) ≡ at old (base + (16 * z + v))) (sym e)
        (at_set_other (set mid p (at mid q)) q (at mid p) p (λ z. omega arith) ∙ at_set mid p (at mid q) (omega (arith, c.size)) ∙ c.other q (λ u i z. omega arith) (λ u i z. omega arith))
    row w l (no e) = away (base + (16 * v + w)) (λ z. omega arith) (λ z. omega arith) ∙ c.row w (omega arith)

    column : (w : ℕ) → w < m + 1 → Dec (w ≡ m) → at new (base + (16 * w + v)) ≡ at old (base + (16 * v + w))
    column w l (yes e) = subst (λ (z : ℕ). at new (base + (16 * z + v)) ≡ at old (base + (16 * v + z))) (sym e)
        (at_set (set mid p (at mid q)) q (at mid p) (omega (arith, c.size, length-set mid p (at mid q))) ∙ c.other p (λ u i z. omega arith) (λ u i z. omega arith))
    column w l (no e) = away (base + (16 * w + v)) (λ z. omega arith) (λ z. omega arith) ∙ c.column w (omega arith)

    pub crossed_turn : Crossed base v (m + 1) old (set (set mid (base + (16 * v + m)) (at mid (base + (16 * m + v)))) (base + (16 * m + v)) (at mid (base + (16 * v + m))))
    crossed_turn = record {
      row = λ w l. row w l (ℕ_discrete w m);
      column = λ w l. column w l (ℕ_discrete w m);
      other = λ j f g. away j (λ e. g m (omega arith) (sym e)) (λ e. f m (omega arith) (sym e)) ∙ c.other j (λ w l. f w (omega arith)) (λ w l. g w (omega arith));
      size = length-set (set mid p (at mid q)) q (at mid p) ∙ length-set mid p (at mid q) ∙ c.size;
    }

-- ---- one value after another
-- the sets of two of the first m values are exchanged
pub record Turned (base m : ℕ) (old new : List ℕ) : Type 0 where
  pub here : (a b : ℕ) → a < m → b < m → at new (base + (16 * a + b)) ≡ at old (base + (16 * b + a))
  pub other : (j : ℕ) → ((a b : ℕ) → a < m → b < m → base + (16 * a + b) ≡ j → ⊥) → at new j ≡ at old j
  pub size : length new ≡ length old

module _ (base : ℕ) (old : List ℕ) where
  pub turned_begin : Turned base 0 old old
  turned_begin = record { here = λ a b l. absurd (omega arith); other = λ j h. refl; size = refl }

  pub turned_turn : (m : ℕ) (mid new : List ℕ) → m < 16 → Turned base m old mid → Crossed base m m mid new → Turned base (m + 1) old new
  turned_turn m mid new h t c = record {
    here = λ a b l k. here a b l k (ℕ_discrete a m) (ℕ_discrete b m);
    other = λ j f. c.other j (λ w l e. f m w (omega arith) (omega arith) e) (λ w l e. f w m (omega arith) (omega arith) e) ∙ t.other j (λ a b l k e. f a b (omega arith) (omega arith) e);
    size = c.size ∙ t.size;
  }
    where
      here : (a b : ℕ) → a < m + 1 → b < m + 1 → Dec (a ≡ m) → Dec (b ≡ m) → at new (base + (16 * a + b)) ≡ at old (base + (16 * b + a))
      here a b l k (yes d) (yes e) =
          let f : base + (16 * a + b) ≡ base + (16 * b + a) = omega arith in
          c.other (base + (16 * a + b)) (λ w i z. omega arith) (λ w i z. omega arith) ∙ t.other (base + (16 * a + b)) (λ u w i n z. omega arith) ∙ ap (at old) f
      here a b l k (yes d) (no e) = subst (λ (z : ℕ). at new (base + (16 * z + b)) ≡ at old (base + (16 * b + z))) (sym d)
          (c.row b (omega arith) ∙ t.other (base + (16 * b + m)) (λ u w i n z. omega arith))
      here a b l k (no d) (yes e) = subst (λ (z : ℕ). at new (base + (16 * a + z)) ≡ at old (base + (16 * z + a))) (sym e)
          (c.column a (omega arith) ∙ t.other (base + (16 * m + a)) (λ u w i n z. omega arith))
      here a b l k (no d) (no e) = c.other (base + (16 * a + b)) (λ w i z. omega arith) (λ w i z. omega arith) ∙ t.here a b (omega arith) (omega arith)

  -- the others are empty
  pub swapped_of : (d i : ℕ) (new : List ℕ) → d ≤ i → i ≤ d → d ≤ 16 → Narrow d base old → Turned base i old new → Swapped base old new
  swapped_of d i new h k n s t = record {
    size = t.size;
    here = λ j l. here j l (dec_lt (j / 16) d) (dec_lt (j % 16) d);
    other = λ j f. t.other j (λ a b l m e. f (16 * a + b) (omega arith) e);
  }
    where
      parts : (j : ℕ) → base + j ≡ base + (16 * (j / 16) + j % 16)
      parts j = omega arith

      still : (j : ℕ) → j < 256 → (j / 16 < d → j % 16 < d → ⊥) → at new (base + j) ≡ at old (base + (16 * (j / 16) + j % 16))
      still j l f = t.other (base + j) (λ a b m o e.
          let u : a ≡ j / 16 = omega arith in
          let w : b ≡ j % 16 = omega arith in
          f (omega arith) (omega arith)) ∙ ap (at old) (parts j)

      here : (j : ℕ) → j < 256 → Dec (j / 16 < d) → Dec (j % 16 < d) → at new (base + j) ≡ at old (base + (16 * (j % 16) + j / 16))
      here j l (yes a) (yes b) = ap (at new) (parts j) ∙ t.here (j / 16) (j % 16) (omega arith) (omega arith)
      here j l (no a) b = still j l (λ m o. a m) ∙ s.first (j / 16) (j % 16) (omega arith) (omega arith) (omega arith) ∙ sym (s.second (j % 16) (j / 16) (omega arith) (omega arith) (omega arith))
      here j l (yes a) (no b) = still j l (λ m o. b o) ∙ s.second (j / 16) (j % 16) (omega arith) (omega arith) (omega arith) ∙ sym
          (s.first (j % 16) (j / 16) (omega arith) (omega arith) (omega arith))

-- ---- tables of values below d stay such
module _ (d base : ℕ) (old new : List ℕ) (s : Narrow d base old) where
  pub narrow_swapped : Swapped base old new → Narrow d base new
  narrow_swapped t = record {
    first = λ a b h k l. was a b k l ∙ s.second b a l h k;
    second = λ a b h k l. was a b h l ∙ s.first b a k l h;
    last = λ a b v h k l m. ap (λ (z : ℕ). has z v) (was a b h k) ∙ s.last b a v k h l m;
  }
    where
      was : (a b : ℕ) → a < 16 → b < 16 → at new (base + (16 * a + b)) ≡ at old (base + (16 * b + a))
      was a b h k =
          let e : base + (16 * ((16 * a + b) % 16) + (16 * a + b) / 16) ≡ base + (16 * b + a) = omega arith in
          t.here (16 * a + b) (omega arith) ∙ ap (at old) e

  pub narrow_transposed : Transposed base 256 old new → Narrow d base new
  narrow_transposed t = record {
    first = λ a b h k l. was a b k l ∙ mask_none _ (λ v m. ap (λ (z : ℕ). has z b) (s.first a v h k m) ∙ has_none b);
    second = λ a b h k l. was a b h l ∙ mask_none _ (λ v m. s.last a v b h m k l);
    last = λ a b v h k l m. ap (λ (z : ℕ). has z v) (was a b h k) ∙ has_mask 16 (λ u. has (at old (base + (16 * a + u))) b) v m ∙ ap (λ (z : ℕ). has z b) (s.second a v h l m) ∙ has_none b;
  }
    where
      was : (a b : ℕ) → a < 16 → b < 16 → at new (base + (16 * a + b)) ≡ mask_of (λ v. has (at old (base + (16 * a + v))) b)
      was a b h k =
          let e : (16 * a + b) / 16 ≡ a = omega arith in
          let f : (16 * a + b) % 16 ≡ b = omega arith in
          t.here (16 * a + b) (omega arith) ∙ ap (λ (z : ℕ). mask_of (λ v. has (at old (base + (16 * z + v))) ((16 * a + b) % 16))) e ∙ ap
          (λ (z : ℕ). mask_of (λ v. has (at old (base + (16 * a + v))) z)) f

  -- the groups from d on are empty
  pub transposed_of : (i : ℕ) → d ≤ i → i ≤ d → d ≤ 16 → Transposed base (16 * i) old new → Transposed base 256 old new
  transposed_of i h k n t = record {
    size = t.size;
    here = λ j l. here j l (dec_lt j (16 * i));
    other = λ j f. t.other j (λ v l e. f v (omega arith) e);
  }
    where
      here : (j : ℕ) → j < 256 → Dec (j < 16 * i) → at new (base + j) ≡ mask_of (λ v. has (at old (base + (16 * (j / 16) + v))) (j % 16))
      here j l (yes a) = t.here j a
      here j l (no a) =
          let e : base + j ≡ base + (16 * (j / 16) + j % 16) = omega arith in
          t.other (base + j) (λ v m z. omega arith) ∙ ap (at old) e ∙ s.first (j / 16) (j % 16) (omega arith) (omega arith) (omega arith)
          ∙ sym (mask_none _ (λ v m. ap (λ (z : ℕ). has z (j % 16)) (s.first (j / 16) v (omega arith) (omega arith) m) ∙ has_none (j % 16)))
