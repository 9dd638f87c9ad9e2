-- What the code does to one set, as the step of an entry. Assumes nothing.
use Rattle.model.specs.Kit.{◌≡◌, refl, sym, ap, ap₂, ◌∙◌, Bool, true, false, not, List, [], ◌∷◌, ℕ, suc, ◌^◌, ◌<◌, arith, eqb, length, set, eq-eqb, ne_eqb, eqb-false}
use Rattle.model.specs.{Lists.at, ValueSets.without_mask, ValueSets.only_mask, Nogood.equality, Nogood.disequality}
use mathlib.Core.Bool.{◌&&◌}
use lib.Pointwise.{pointwise}
use Rattle.std.proofs.lemmas.Slice.Eq.{slice_eq-Decides}
use Rattle.std.proofs.lemmas.Bool.Decides.{Decides-eqb}
use Rattle.model.proofs.Lists.{never}
use Rattle.filter.specs.declared.entry.Step.TheVariants.{Next, Failed, Obeyed, Split}
use Rattle.filter.specs.Inner.Scan.{Stepped, Changed, cut_step, keep_step}
use Rattle.filter.proofs.Scan.{kept_without, absent_only}

-- `left` is the variable's set without the value
module _ (ss : List ℕ) (x v left : ℕ) (q : left ≡ without_mask (at ss x) v) where
  is_empty : (b : Bool) → b ≡ eqb left 0 → b ≡ true → eqb (without_mask (at ss x) v) 0 ≡ true
  is_empty b e t = ap (λ (s : ℕ). eqb s 0) (sym q) ∙ sym e ∙ t

  is_full : (b : Bool) → b ≡ eqb left 0 → b ≡ false → eqb (without_mask (at ss x) v) 0 ≡ false
  is_full b e f = ap (λ (s : ℕ). eqb s 0) (sym q) ∙ sym e ∙ f

  pub cut_failed : (b : Bool) → b ≡ eqb left 0 → b ≡ true → Stepped ss (disequality x v) (set ss x left) Failed
  cut_failed b e t = record { step = sym (ap cut_step (is_empty b e t)); sets = ap (set ss x) q }

  pub cut_next : (b : Bool) → b ≡ eqb left 0 → b ≡ false → Stepped ss (disequality x v) (set ss x left) Next
  cut_next b e f = record { step = sym (ap cut_step (is_full b e f)); sets = ap (set ss x) q }

  pub keep_next : (b : Bool) → b ≡ eqb left 0 → b ≡ true → Stepped ss (equality x v) ss Next
  keep_next b e t = record { step = sym (ap (λ (c : Bool). keep_step c (eqb (only_mask (at ss x) v) 0)) (is_empty b e t)); sets = refl }

  -- nothing went: the set has not the value
  pub keep_obeyed : (b : Bool) → b ≡ eqb left 0 → b ≡ false → left ≡ at ss x → Stepped ss (equality x v) ss Obeyed
  keep_obeyed b e f s =
      record { step = sym (ap₂ keep_step (is_full b e f) (eq-eqb (only_mask (at ss x) v) 0 (absent_only (at ss x) v (sym q ∙ s)))); sets = refl }

  pub keep_split : at ss x < 2 ^ 16 → (b : Bool) → b ≡ eqb left 0 → b ≡ false → (left ≡ at ss x → ⊥) → Stepped ss (equality x v) ss Split
  keep_split h b e f n =
      record { step = sym (ap₂ keep_step (is_full b e f) (ne_eqb (only_mask (at ss x) v) 0 (λ z. n (q ∙ kept_without (at ss x) v h z)))); sets = refl }

-- ---- two times sixteen sets, compared
differ : (old new : List ℕ) → length old ≡ length new → pointwise eqb old new ≡ false → (y : ℕ) × (y < length old) × (at new y ≡ at old y → ⊥)
unfolding at
differ [] [] n e = never (cc)
differ [] (y ∷ ys) n e = absurd (let z : 0 ≡ suc (length ys) = n in omega arith)
differ (x ∷ xs) [] n e = absurd (let z : suc (length xs) ≡ 0 = n in omega arith)
differ (x ∷ xs) (y ∷ ys) n e = go (eqb x y) refl e (λ f. differ xs ys (omega arith) f)
  where
    go : (c : Bool) → eqb x y ≡ c → (c && pointwise eqb xs ys) ≡ false
        → (pointwise eqb xs ys ≡ false → (k : ℕ) × (k < length xs) × (at ys k ≡ at xs k → ⊥)) → (k : ℕ) × (k < length (x ∷ xs)) × (at (y ∷ ys) k ≡ at (x ∷ xs) k → ⊥)
    go true q f rest = let w = rest f in (suc w.0, omega (arith, w.1), w.2)
    go false q f rest = (0, omega arith, λ k. eqb-false x y q (sym k))

pub compared : (old new : List ℕ) → length old ≡ 16 → length new ≡ 16 → Changed (not (pointwise eqb old new)) old new
compared old new m n = go (pointwise eqb old new) refl
  where
    go : (c : Bool) → pointwise eqb old new ≡ c → Changed (not c) old new
    go true q = λ y l. ap (λ (s : List ℕ). at s y) (sym ((slice_eq-Decides Decides-eqb old new _ refl).0 q))
    go false q = let w = differ old new (m ∙ sym n) q in (w.0, omega (arith, w.1), w.2)
