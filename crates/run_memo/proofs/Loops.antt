-- One turn of each of the memo's loops. Assumes nothing.
use Rattle.model.specs.Kit.{◌≡◌, sym, ap, ◌∙◌, subst, List, ℕ, ◌+◌, ◌≤◌, ◌<◌, ℕ_discrete, arith, length, set, length-set}
use Rattle.model.specs.Lists.{at, tabulate}
use Rattle.model.proofs.Lists.{at_set, at_set_other, at_ext, at_tabulate, length_tabulate}
use Rattle.arrays.specs.Inner.Places.{MEMO, DEPTH, COUNTS}
use Rattle.run_state.specs.Inner.Memo.{entry_at}
use Rattle.run_passed.specs.Inner.Passed.{plus}

-- ---- entries that are emptied
abbrev pub ClearedTo : List ℕ → ℕ → List ℕ → Type 0
ClearedTo work i work' = ((j : ℕ) → j < i → at work' (entry_at j + DEPTH) ≡ 0) × ((j : ℕ) → j < MEMO → at work' j ≡ at work j) × (length work' ≡ length work)

pub cleared_turn : (work : List ℕ) (i : ℕ) (work' : List ℕ) → entry_at i + DEPTH < length work → ClearedTo work i work' → ClearedTo work (i + 1) (set work' (entry_at i + DEPTH) 0)
cleared_turn work i work' long h = (
  λ j l. go j l (ℕ_discrete j i),
  λ j l. at_set_other work' (entry_at i + DEPTH) 0 j (λ e. omega arith) ∙ h.1 j l,
  length-set work' (entry_at i + DEPTH) 0 ∙ h.2,
)
  where
    go : (j : ℕ) → j < i + 1 → Dec (j ≡ i) → at (set work' (entry_at i + DEPTH) 0) (entry_at j + DEPTH) ≡ 0
    go j l (yes e) = subst (λ (k : ℕ). at (set work' (entry_at i + DEPTH) 0) (entry_at k + DEPTH) ≡ 0) (sym e) (at_set work' (entry_at i + DEPTH) 0 (omega (arith, h.2)))
    go j l (no n) = at_set_other work' (entry_at i + DEPTH) 0 (entry_at j + DEPTH) (λ e. n (omega arith)) ∙ h.0 j (omega arith)

-- ---- counts that grow
abbrev pub GrownTo : List ℕ → List ℕ → ℕ → ℕ → List ℕ → Type 0
GrownTo counts work s x counts' =
    ((y : ℕ) → y < x → at counts' y ≡ at counts y + at work (s + COUNTS + y)) × ((y : ℕ) → x ≤ y → at counts' y ≡ at counts y) × (length counts' ≡ length counts)

pub grown_turn : (counts work : List ℕ) (s x : ℕ) (counts' : List ℕ) → x < length counts → GrownTo counts work s x counts' → GrownTo counts work s (x + 1)
    (set counts' x (at counts' x + at work (s + COUNTS + x)))
grown_turn counts work s x counts' l h = (
  λ y m. go y m (ℕ_discrete y x),
  λ y m. at_set_other counts' x _ y (λ e. omega arith) ∙ h.1 y (omega arith),
  length-set counts' x _ ∙ h.2,
)
  where
    go : (y : ℕ) → y < x + 1 → Dec (y ≡ x) → at (set counts' x (at counts' x + at work (s + COUNTS + x))) y ≡ at counts y + at work (s + COUNTS + y)
    go y m (yes e) =
        subst (λ (j : ℕ). at (set counts' x (at counts' x + at work (s + COUNTS + x))) j ≡ at counts j + at work (s + COUNTS + j)) (sym e)
        (at_set counts' x _ (omega (arith, h.2)) ∙ ap (λ (n : ℕ). n + at work (s + COUNTS + x)) (h.1 x (omega arith)))
    go y m (no n) = at_set_other counts' x _ y n ∙ h.0 y (omega arith)

pub grown_all : (counts work : List ℕ) (s : ℕ) (counts' : List ℕ) → length counts ≡ 12 → GrownTo counts work s 12 counts' → counts' ≡ plus counts (tabulate 12 (λ x. at work (s + COUNTS + x)))
unfolding plus
grown_all counts work s counts' l h =
    at_ext counts' (tabulate 12 (λ x. at counts x + at more x)) (h.2 ∙ l ∙ sym (length_tabulate 12 _))
    (λ x i. let j : x < 12 = omega (arith, h.2) in h.0 x j ∙ ap (λ (n : ℕ). at counts x + n) (sym (at_tabulate 12 (λ x. at work (s + COUNTS + x)) x j))
    ∙ sym (at_tabulate 12 (λ x. at counts x + at more x) x j))
  where
    more : List ℕ
    more = tabulate 12 (λ x. at work (s + COUNTS + x))
