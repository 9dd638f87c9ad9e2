-- How far the walk came: what is left of the list once `seen` sheets are passed, before candidate n. Assumes nothing.
use Rattle.model.specs.Kit.{◌≡◌, sym, ap, ◌∙◌, subst, true, false, List, [], ◌∷◌, map, ℕ, suc, ◌+◌, ◌-◌, ◌≤◌, ◌<◌, add-one, arith, length, drop, get_or, length-drop, get_or-drop}
use Rattle.model.specs.Lists.{keep, up_from, below}
use lib.Seq.{drop-drop}
use Rattle.model.proofs.Lists.{keep_yes, keep_no}
use Rattle.sheet_small.specs.{Small.is_sheet, Small.small_sheets, Answers.sheet_at, Inner.Inner.candidate, Inner.Inner.Drafts, Inner.Inner.At, declared.Draft.Draft}
use Rattle.sheet_small.proofs.Order.{order}

abbrev from : ℕ → List (List ℕ)
from n = map candidate (up_from n (3600 - n))

abbrev pub Came : ℕ → ℕ → Type 0
Came seen n = drop seen small_sheets ≡ keep is_sheet (from n)

pub came_first : Came 0 0
unfolding below
came_first = order

pub came_last : (seen n : ℕ) → 3600 ≤ n → Came seen n → length small_sheets ≤ seen
unfolding keep up_from
came_last seen n h p =
    let e : 3600 - n ≡ 0 = omega arith in
    omega (arith, length-drop seen small_sheets, ap length (p ∙ ap (λ (k : ℕ). keep is_sheet (map candidate (up_from n k))) e))

module _ (seen n : ℕ) (h : n < 3600) (p : Came seen n) where
  next : from n ≡ candidate n ∷ from (n + 1)
  unfolding up_from
  next =
      let e : 3600 - n ≡ suc (3600 - (n + 1)) = omega arith in
      ap (λ (k : ℕ). map candidate (up_from n k)) e ∙ ap (λ (m : ℕ). candidate n ∷ map candidate (up_from m (3600 - (n + 1)))) (sym (add-one n))

  pub came_refused : is_sheet (candidate n) ≡ false → Came seen (n + 1)
  came_refused e = p ∙ ap (keep is_sheet) next ∙ keep_no is_sheet (candidate n) (from (n + 1)) e

  module _ (e : is_sheet (candidate n) ≡ true) where
    front : drop seen small_sheets ≡ candidate n ∷ keep is_sheet (from (n + 1))
    front = p ∙ ap (keep is_sheet) next ∙ keep_yes is_sheet (candidate n) (from (n + 1)) e

    pub came_accepted : Came (seen + 1) (n + 1)
    came_accepted = sym (drop-drop 1 seen small_sheets) ∙ ap (drop 1) front

    within : seen < length small_sheets
    within = omega (arith, length-drop seen small_sheets, ap length front)

    here : candidate n ≡ sheet_at seen
    unfolding sheet_at
    here = let k : seen + 0 ≡ seen = omega arith in sym (ap (λ (i : ℕ). get_or small_sheets i []) (sym k) ∙ sym (get_or-drop seen small_sheets 0 []) ∙ ap (λ (l : List (List ℕ)). get_or l 0 []) front)

pub found : (k seen n : ℕ) (d : Draft) → n < 3600 → Came seen n → Drafts (candidate n) d → is_sheet (candidate n) ≡ true → seen ≡ k → At k d
found k seen n d h p f e s =
    record {
      past = λ z. absurd (omega (arith, f.some));
      here = λ z. (omega (arith, within seen n h p e), subst (λ (b : List ℕ). Drafts b d) (here seen n h p e ∙ ap sheet_at s) f);
    }
