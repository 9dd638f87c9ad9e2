-- Loops: one more, and the end. Assumes nothing.
use Rattle.model.specs.Kit.{◌≡◌, refl, sym, ap, ◌∙◌, subst, Bool, List, ℕ, ◌+◌, ◌^◌, ◌<◌, arith, bit_or, or_lt, length, lt-ltb}
use Rattle.model.specs.{Lists.at, Lists.both, ValueSets.has, ValueSets.mask_of, Inner.Filling.Filled, Inner.Filling.Gathered}
use Rattle.model.proofs.{Masks.is_mask, Filling.gathered_begin, Filling.gathered_more}
use Rattle.arrays_order.specs.Inner.Steps.{Cell, Added}

-- ---- a set, one cell after another
pub record Column (f : ℕ → Bool) (i set : ℕ) : Type 0 where
  pub gathered : Gathered f i set
  pub few : set < 2 ^ 16

pub column_begin : (f : ℕ → Bool) → Column f 0 0
column_begin f = record { gathered = gathered_begin f; few = omega arith }

pub column_turn : (f : ℕ → Bool) (i set s w r : ℕ) → Column f i set → has s w ≡ f i → Cell s w i r → Column f (i + 1) (bit_or set r)
column_turn f i set s w r c e d = record {
  gathered = gathered_more f i set r c.gathered (λ x. d.has_is x ∙ ap (λ (b : Bool). both b (lib.Dec.eqb x i)) e);
  few = or_lt 16 set r c.few d.few;
}

pub column_end : (f : ℕ → Bool) (i set : ℕ) → i ≡ 16 → Column f i set → set ≡ mask_of f
column_end f i set e c = is_mask set f c.few (λ v l. c.gathered.has_is v ∙ ap (λ (b : Bool). both b (f v)) (lt-ltb v i (omega arith)))

-- ---- sixteen columns, one set after another
module _ (base : ℕ) (supports : List ℕ) where
  abbrev member : ℕ → ℕ → Bool
  member w v = has (at supports (base + v)) w

  pub record Columns (i : ℕ) (columns : List ℕ) : Type 0 where
    pub column : (w : ℕ) → w < 16 → Column (member w) i (at columns w)
    pub size : length columns ≡ 16

  pub columns_begin : (columns : List ℕ) → length columns ≡ 16 → ((w : ℕ) → at columns w ≡ 0) → Columns 0 columns
  columns_begin columns h z = record { column = λ w l. subst (λ (n : ℕ). Column (member w) 0 n) (sym (z w)) (column_begin (member w)); size = h }

  pub columns_turn : (i : ℕ) (old new : List ℕ) → Columns i old → Filled (λ w. w) (Added (at supports (base + i)) i old) 16 old new → Columns (i + 1) new
  columns_turn i old new c f = record {
    column = λ w l. (let q = f.here w l in subst (λ (n : ℕ). Column (member w) (i + 1) n) (sym q.2)
        (column_turn (member w) i (at old w) (at supports (base + i)) w q.0 (c.column w l) refl q.1));
    size = f.size ∙ c.size;
  }

  pub columns_end : (i : ℕ) (columns : List ℕ) → i ≡ 16 → Columns i columns → (w : ℕ) → w < 16 → at columns w ≡ mask_of (member w)
  columns_end i columns e c w l = column_end (member w) i (at columns w) e (c.column w l)
