-- Cells copied one by one, and a variable's cells after another's. Assumes nothing.
use Rattle.model.specs.Kit.{◌≡◌, refl, sym, ap, ◌∙◌, Bool, true, false, List, ℕ, ◌+◌, ◌*◌, ◌≤◌, ◌<◌, suc-mul, mul-le-mul_right, arith, below_more, leb-true, leb-false, leb, length, set}
use Rattle.model.specs.{Lists.at, Written.placed}
use native.Mathlib.Nat.{mul-one}
use Rattle.model.proofs.Lists.{at_set, at_set_other}
use Rattle.list_columns.specs.Inner.Steps.{Inside, Copied}
use Rattle.list_columns.proofs.Cells.{turned, turned_placed}

-- ---- one cell more
later : (step i j : ℕ) → 1 ≤ step → i < j → i * step < j * step
later step i j h l = omega (arith, suc-mul i step, mul-le-mul_right step l)

pub copied_none : (d : List ℕ) (start step : ℕ) (cells : List ℕ) (from stride : ℕ) → Copied d start step cells from stride 0 d
copied_none d start step cells from stride = record { put = λ i h. absurd (omega arith); kept = λ j h. refl }

pub copied_turn : {d : List ℕ} {start step : ℕ} {cells : List ℕ} {from stride i : ℕ} {e : List ℕ} → 1 ≤ step → start + i * step < length e → Copied d start step cells from stride i e
    → Copied d start step cells from stride (i + 1) (set e (start + i * step) (at cells (from + i * stride)))
copied_turn {d} {start} {step} {cells} {from} {stride} {i} {e} some fits w = record { put = put; kept = kept }
  where
    v : ℕ
    v = at cells (from + i * stride)

    put : (k : ℕ) → k < i + 1 → at (set e (start + i * step) v) (start + k * step) ≡ at cells (from + k * stride)
    put = below_more (λ k. at (set e (start + i * step) v) (start + k * step) ≡ at cells (from + k * stride)) i
        (λ k l. at_set_other e (start + i * step) v (start + k * step) (λ q. omega (arith, later step k i some l)) ∙ w.put k l)
        (at_set e (start + i * step) v fits)

    kept : (j : ℕ) → ((k : ℕ) → k < i + 1 → j ≡ start + k * step → ⊥) → at (set e (start + i * step) v) j ≡ at d j
    kept j h = at_set_other e (start + i * step) v j (λ q. h i (omega arith) q) ∙ w.kept j (λ k l. h k (omega arith))

-- ---- one variable more: P and Q are the indexes of a variable's value in a plan, where it is put and where it was
module _ (P Q : ℕ → ℕ → ℕ) (plans : ℕ) (cells : List ℕ) (start end : ℕ) (d : List ℕ) where
  -- the values of the variables below x are put; outside the part from start to end the buffer is as it came
  pub record Put (x : ℕ) (out : List ℕ) : Type 0 where
    pub same : length out ≡ length d
    pub done : (y i : ℕ) → y < x → i < plans → at out (P y i) ≡ at cells (Q y i)
    pub before : (j : ℕ) → j < start → at out j ≡ at d j
    pub after : (j : ℕ) → end ≤ j → at out j ≡ at d j

  pub put_none : Put 0 d
  put_none = record { same = refl; done = λ y i h l. absurd (omega arith); before = λ j h. refl; after = λ j h. refl }

  pub put_turn : {e : List ℕ} {first step from stride : ℕ} {f : List ℕ} (x : ℕ) → ((i : ℕ) → P x i ≡ first + i * step) → ((i : ℕ) → Q x i ≡ from + i * stride) →
      ((i : ℕ) → i < plans → (start ≤ P x i) × (P x i < end)) → ((y i j : ℕ) → y < x → i < plans → j < plans → P y i ≡ P x j → ⊥) → Put x e → length f ≡ length e
      → Copied e first step cells from stride plans f → Put (x + 1) f
  put_turn {e} {first} {step} {from} {stride} {f} x p q inside apart w len c = record { same = len ∙ w.same; done = done; before = before; after = after }
    where
      done : (y i : ℕ) → y < x + 1 → i < plans → at f (P y i) ≡ at cells (Q y i)
      done y i h l =
          below_more (λ k. at f (P k i) ≡ at cells (Q k i)) x
          (λ k below. c.kept (P k i) (λ j lt e'. apart k i j below l lt (e' ∙ sym (p j))) ∙ w.done k i below l)
          (ap (λ (m : ℕ). at f m) (p i) ∙ c.put i l ∙ sym (ap (λ (m : ℕ). at cells m) (q i)))
          y h

      before : (j : ℕ) → j < start → at f j ≡ at d j
      before j h = c.kept j (λ i l e'. omega (arith, (inside i l).0, p i)) ∙ w.before j h

      after : (j : ℕ) → end ≤ j → at f j ≡ at d j
      after j h = c.kept j (λ i l e'. omega (arith, (inside i l).1, p i)) ∙ w.after j h

-- ---- indexes: cell i of row x, of n rows of k cells, is one of them, and no cell of another row or of another place
within : (n k x i : ℕ) → x < n → i < k → x * k + i < n * k
within n k x i h l = omega (arith, suc-mul x k, mul-le-mul_right k h)

other_row : (k x y i j : ℕ) → y < x → i < k → y * k + i ≡ x * k + j → ⊥
other_row k x y i j h l e = omega (arith, suc-mul y k, mul-le-mul_right k h)

other_place : (k x y i j : ℕ) → y < x → x < k → i * k + y ≡ j * k + x → ⊥
other_place k x y i j h l e = go (leb i j) refl
  where
    go : (b : Bool) → leb i j ≡ b → ⊥
    go true q = omega (arith, mul-le-mul_right k (leb-true i j q))
    go false q = omega (arith, suc-mul j k, mul-le-mul_right k (leb-false i j q))

-- ---- rows to columns
abbrev pub ColumnsPut : (start : ℕ) (b : List ℕ) (variables plans : ℕ) (d : List ℕ) (x : ℕ) (out : List ℕ) → Type 0
ColumnsPut start b variables plans d x out = Put (λ y i. start + (y * plans + i)) (λ y i. i * variables + y) plans b start (start + variables * plans) d x out

module _ (start : ℕ) (b : List ℕ) (variables plans : ℕ) (d : List ℕ) (whole : plans * variables ≤ length b) (fits : start + variables * plans ≤ length d) where
  pub column_fits : (x len : ℕ) → x < variables → len ≡ length d → Inside len (start + x * plans) 1 plans
  column_fits x len h e i l = omega (arith, within variables plans x i h l, mul-one i)

  pub column_inside : (x : ℕ) → x < variables → Inside (length b) x variables plans
  column_inside x h i l = omega (arith, within plans variables i x l h)

  pub column_turn : {e f : List ℕ} (x : ℕ) → x < variables → length f ≡ length e → Copied e (start + x * plans) 1 b x variables plans f → ColumnsPut start b variables plans d x e
      → ColumnsPut start b variables plans d (x + 1) f
  column_turn x h len c w =
      put_turn _ _ plans b start (start + variables * plans) d x (λ i. omega (arith, mul-one i)) (λ i. omega arith)
      (λ i l. (omega arith, omega (arith, within variables plans x i h l)))
      (λ y i j below l m e. other_row plans x y i j below l (omega arith))
      w len c

  pub columns_whole : {e : List ℕ} (x : ℕ) → x ≡ variables → ColumnsPut start b variables plans d x e → e ≡ placed d start (turned variables plans b)
  columns_whole {e} x h w = turned_placed variables plans b d e start fits w.same (λ y i l m. w.done y i (omega arith) m) w.before w.after

-- ---- columns to rows
abbrev pub RowsPut : (b : List ℕ) (variables plans : ℕ) (d : List ℕ) (x : ℕ) (out : List ℕ) → Type 0
RowsPut b variables plans d x out = Put (λ y i. 0 + (i * variables + y)) (λ y i. y * plans + i) plans b 0 (0 + plans * variables) d x out

module _ (b : List ℕ) (variables plans : ℕ) (d : List ℕ) (whole : variables * plans ≤ length b) (fits : plans * variables ≤ length d) where
  pub row_fits : (x len : ℕ) → x < variables → len ≡ length d → Inside len x variables plans
  row_fits x len h e i l = omega (arith, within plans variables i x l h)

  pub row_inside : (x : ℕ) → x < variables → Inside (length b) (x * plans) 1 plans
  row_inside x h i l = omega (arith, within variables plans x i h l, mul-one i)

  pub row_turn : {e f : List ℕ} (x : ℕ) → x < variables → length f ≡ length e → Copied e x variables b (x * plans) 1 plans f → RowsPut b variables plans d x e → RowsPut b variables plans d (x + 1) f
  row_turn x h len c w =
      put_turn _ _ plans b 0 (0 + plans * variables) d x (λ i. omega arith) (λ i. omega (arith, mul-one i))
      (λ i l. (omega arith, omega (arith, within plans variables i x l h)))
      (λ y i j below l m e. other_place variables x y i j below h (omega arith))
      w len c

  pub rows_whole : {e : List ℕ} (x : ℕ) → x ≡ variables → RowsPut b variables plans d x e → e ≡ placed d 0 (turned plans variables b)
  rows_whole {e} x h w = turned_placed plans variables b d e 0 (omega arith) w.same (λ i y l m. w.done y i (omega arith) l) w.before w.after
