-- A table that moves a number that is no pair is refused, by computation over all shapes and tables. Assumes nothing.
use Rattle.model.specs.Kit.{◌≡◌, refl, sym, ap, ap₂, ◌∙◌, subst, Bool, true, false, not, ⊎_elim, ℕ, ◌+◌, ◌-◌, ◌/◌, ◌%◌, ◌≤◌, ◌<◌, arith, T_not, eqb, eqb→eq}
use Rattle.model.specs.Lists.{either, all, any, keep, flat, up_from, below, at, same}
use Rattle.model.specs.Problem.{assignments, pair, is_pair, within, doubled, pairs_at, excluded, forbidden, respects}
use Rattle.model.specs.{ValueSets.has, ValueSets.members, Sheet.distinct, Sheet.permutes_pairs, Sheet.symmetries_verdict}
use Rattle.model.proofs.Lists.{of_T, not_of, either_e}
use Rattle.sheet_small.specs.Inner.Inner.{skip, shape_no, second_no, third_no, fourth_no, IsTable, moved_by, candidate}
use Rattle.sheet_small.specs.{Small.rows_of, Small.is_sheet, declared.Images.Images}
use Rattle.sheet_small.proofs.{Lists.tested, Drafts.candidate_table, Stating.stated, Stating.table_verdict, Stating.table_fits, Stating.table_fits_lem}

-- shape and table of a candidate
pub parts : (n : ℕ) → n < 3600 → ((n - 144) / 24 < 144) × ((n - 144) % 24 < 24)
parts n h = (omega arith, omega arith)

skip_few : (a i k : ℕ) → i < k → k ≤ 3 → skip a i < k + 1
skip_few a i k h l = omega arith

pub few : (j : ℕ) (t : Images) → j < 24 → IsTable j t → (t.a < 4) × (t.b < 4) × (t.c < 4) × (t.d < 4)
few j t h k =
    let low : (v : ℕ) → v < 3 → skip (j / 6) v < 4 = λ v l. skip_few (j / 6) v 3 l (omega arith) in (
      omega (arith, k.a),
      subst (λ (v : ℕ). v < 4) (sym k.b) (low (j / 2 % 3) (omega arith)),
      subst (λ (v : ℕ). v < 4) (sym k.c) (low (skip (j / 2 % 3) (j % 2)) (skip_few (j / 2 % 3) (j % 2) 2 (omega arith) (omega arith))),
      subst (λ (v : ℕ). v < 4) (sym k.d) (low (skip (j / 2 % 3) (1 - j % 2)) (skip_few (j / 2 % 3) (1 - j % 2) 2 (omega arith) (omega arith))),
    )

abbrev moved_no : ℕ → ℕ → ℕ
moved_no i j = moved_by i (j / 6) (second_no j) (third_no j) (fourth_no j)

-- nothing is moved, or the table is refused
abbrev kept : ℕ → ℕ → Bool
kept i j = either (eqb (moved_no i j) 0) (not (table_fits i j))

refused_test : all (λ i. all (kept i) (below 24)) (below 144) ≡ true
unfolding table_fits table_verdict stated shape_no rows_of all any keep flat up_from below at same has members assignments pair is_pair within doubled pairs_at excluded forbidden respects distinct
    permutes_pairs symmetries_verdict
refused_test = refl

refused_moved : (i j : ℕ) → i < 144 → j < 24 → 0 < moved_no i j → table_fits i j ≡ false
refused_moved i j h k m =
    let either-so = tested (kept i) 24 (of_T (all (kept i) (below 24)) (tested (λ i. all (kept i) (below 24)) 144 refused_test i h)) j k in
    not_of (table_fits i j) (λ t. ⊎_elim (λ z. let e = eqb→eq (moved_no i j) 0 z in omega arith) (λ f. T_not (table_fits i j) f t) (either_e (eqb (moved_no i j) 0) (not (table_fits i j)) either-so))

pub moved_refused : (n m : ℕ) (t : Images) → 144 ≤ n → n < 3600 → IsTable ((n - 144) % 24) t → m ≡ moved_by ((n - 144) / 24) t.a t.b t.c t.d → 0 < m → false ≡ is_sheet (candidate n)
moved_refused n m t l h k e z =
    let i = (n - 144) / 24 in
    let j = (n - 144) % 24 in
    let f : m ≡ moved_no i j = e ∙ ap₂ (λ (x y : ℕ). moved_by i x y t.c t.d) k.a k.b ∙ ap₂ (λ (x y : ℕ). moved_by i (j / 6) (second_no j) x y) k.c k.d in
    sym (ap is_sheet (candidate_table n l) ∙ table_fits_lem i j (parts n h).0 ∙ refused_moved i j (parts n h).0 (parts n h).1 (subst (λ (x : ℕ). 0 < x) f z))
