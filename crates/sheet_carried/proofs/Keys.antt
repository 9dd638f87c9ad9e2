-- Values of a row as the digits of a number, and where their set of last values stands. Assumes nothing.
use Rattle.model.specs.Kit.{◌≡◌, refl, sym, ap, ◌∙◌, List, [], ◌∷◌, ◌++◌, Memᴰ, Memᴰ-head, Memᴰ-tail, ℕ, zero, suc, ◌+◌, ◌*◌, ◌≤◌, ◌<◌, not-suc-le-zero, le_of_suc-le-suc, arith, length}
use Rattle.model.specs.{Lists.any, Lists.at, Lists.same, ValueSets.has, Problem.Problem, Problem.constraint_at, Inner.WellFormed.Stated}
use Rattle.model.proofs.Sets.{has_mask}
use Rattle.arrays.specs.Inner.Layout.{place, Supports}
use Rattle.sheet_table.specs.Inner.Forbidden.{Begun, packed, packed_on}
use Rattle.sheet_table.proofs.Codes.{init_16}

-- every digit is one
abbrev pub Digits : List ℕ → Type 0
Digits vs = (i : ℕ) → i < length vs → at vs i < 16

on_snoc : (key : ℕ) (vs : List ℕ) (v : ℕ) → packed_on key (vs ++ (v ∷ [])) ≡ 16 * packed_on key vs + v
unfolding packed_on
on_snoc key [] v = refl
on_snoc key (u ∷ vs) v = on_snoc (16 * key + u) vs v

pub packed_snoc : (vs : List ℕ) (v : ℕ) → packed (vs ++ (v ∷ [])) ≡ 16 * packed vs + v
packed_snoc vs v = on_snoc 0 vs v

pub packed_none : packed [] ≡ 0
unfolding packed_on
packed_none = refl

pub place_packed : (vs : List ℕ) → length vs ≤ 2 → place vs ≡ packed vs
unfolding packed_on
place_packed [] h = refl
place_packed (x ∷ []) h = omega arith
place_packed (x ∷ y ∷ []) h = omega arith
place_packed (x ∷ y ∷ z ∷ r) h = absurd (omega arith)

pub packed_lt : (vs : List ℕ) → length vs ≤ 2 → Digits vs → packed vs < 256
unfolding packed_on at
packed_lt [] h d = omega arith
packed_lt (x ∷ []) h d = omega (arith, d 0 (omega arith))
packed_lt (x ∷ y ∷ []) h d = omega (arith, d 0 (omega arith), d 1 (omega arith))
packed_lt (x ∷ y ∷ z ∷ r) h d = absurd (omega arith)

-- ---- digits
pub digits_snoc : (vs : List ℕ) (v : ℕ) → Digits vs → v < 16 → Digits (vs ++ (v ∷ []))
unfolding at
digits_snoc [] v d h zero l = h
digits_snoc [] v d h (suc i) l = absurd (not-suc-le-zero (le_of_suc-le-suc l))
digits_snoc (u ∷ vs) v d h zero l = d 0 (omega arith)
digits_snoc (u ∷ vs) v d h (suc i) l = digits_snoc vs v (λ j k. d (suc j) (omega arith)) h i (le_of_suc-le-suc l)

pub begun_digits : (p : Problem) → Stated p → (xs vs : List ℕ) → ((x : ℕ) → Memᴰ x xs → x < p.variables) → Begun p xs vs → Digits vs
unfolding at
begun_digits p w xs [] i b j l = absurd (not-suc-le-zero l)
begun_digits p w [] (v ∷ vs) i b j l = absurd b
begun_digits p w (x ∷ xs) (v ∷ vs) i b zero l = init_16 p w x v (i x (Memᴰ-head refl)) b.0
begun_digits p w (x ∷ xs) (v ∷ vs) i b (suc j) l = begun_digits p w xs vs (λ y m. i y (Memᴰ-tail m)) b.1 j (le_of_suc-le-suc l)

-- ---- the test of a row
pub row_test : (p : Problem) (supports : List ℕ) → Supports p supports → (k : ℕ) → k < length p.constraints → (vs : List ℕ) (v : ℕ) →
    suc (length vs) ≡ length (constraint_at p k).scope → length vs ≤ 2 → Digits vs → v < 16 → has (at supports (256 * k + packed vs)) v ≡ any (same (vs ++ (v ∷ []))) (constraint_at p k).rows
row_test p supports s k h vs v e l d b =
    ap (λ (n : ℕ). has (at supports (256 * k + n)) v) (sym (place_packed vs l))
    ∙ ap (λ (n : ℕ). has n v) (s k h vs e d)
    ∙ has_mask 16 (λ v. any (same (vs ++ (v ∷ []))) (constraint_at p k).rows) v b
