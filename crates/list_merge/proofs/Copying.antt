-- A row put down four bytes at a time, the last four over the ones before. Assumes nothing.
use Rattle.model.specs.Kit.{◌≡◌, refl, sym, ap, ap₂, ◌∙◌, List, ◌++◌, append_assoc, ℕ, ◌+◌, ◌-◌, ◌≤◌, ◌<◌, add-one, arith, length, take, drop, get_or, set, length-append, length-drop, length-take-le}
use Rattle.model.specs.Kit.{take_all, get_or-take, get_or-drop}
use Rattle.model.specs.Written.{placed, Written}
use lib.Seq.{take-add, take_at, drop_at, drop-drop, paste, paste-zero, paste-suc}
use Rattle.model.proofs.Written.{length_placed, placed_then, written_paste}

module _ (d : List ℕ) (to : ℕ) (row : List ℕ) (from : ℕ) (hd : to + 4 ≤ length d) (hr : from + 4 ≤ length row) where
  abbrev part : List ℕ
  part = take 4 (drop from row)

  part_length : length part ≡ 4
  part_length = length-take-le 4 (drop from row) (omega (arith, length-drop from row))

  turn : (k x y : ℕ) → k < 4 → x ≡ to + k → y ≡ from + k → (o : List ℕ) → o ≡ paste d to part k → set o x (get_or row y 0) ≡ paste d to part (k + 1)
  turn k x y h ex ey o e =
      ap₂ (λ (l : List ℕ) (i : ℕ). set l i (get_or row y 0)) e ex
      ∙ ap (λ (v : ℕ). set (paste d to part k) (to + k) v) (ap (λ (i : ℕ). get_or row i 0) ey ∙ sym (get_or-take 4 (drop from row) k 0 h ∙ get_or-drop from row k 0))
      ∙ paste-suc d to part k 0 (omega arith) (omega (arith, part_length))
      ∙ ap (paste d to part) (sym (add-one k))

  pub four : set (set (set (set d to (get_or row from 0)) (to + 1) (get_or row (from + 1) 0)) (to + 2) (get_or row (from + 2) 0)) (to + 3) (get_or row (from + 3) 0) ≡ placed d to part
  four =
      turn 3 (to + 3) (from + 3) (omega arith) refl refl _
      (turn 2 (to + 2) (from + 2) (omega arith) refl refl _
      (turn 1 (to + 1) (from + 1) (omega arith) refl refl _
      (turn 0 to from (omega arith) (omega arith) (omega arith) d (paste-zero d to part))))
      ∙ (written_paste d to part 4 (sym part_length)).bytes

-- a text put over a shorter one
placed_over : (e : List ℕ) (k : ℕ) (v w : List ℕ) → k + length v ≤ length e → length v ≤ length w → placed (placed e k v) k w ≡ placed e k w
unfolding placed
placed_over e k v w h l =
    let lt : length (take k e) ≡ k = length-take-le k e (omega arith) in
    let more : ℕ = length w - length v in
    let q : k + length w ≡ k + length v + more = omega arith in
    let x : List ℕ = take k e ++ v ++ drop (k + length v) e in
    ap₂ (λ (y z : List ℕ). y ++ w ++ z)
    (ap (take k) (append_assoc (take k e) v (drop (k + length v) e)) ∙ take_at (take k e) (v ++ drop (k + length v) e) k lt)
    (ap (λ (m : ℕ). drop m x) q
    ∙ sym (drop-drop more (k + length v) x)
    ∙ ap (drop more) (drop_at (take k e ++ v) (drop (k + length v) e) (k + length v) (omega (arith, length-append (take k e) v)))
    ∙ drop-drop more (k + length v) e
    ∙ ap (λ (m : ℕ). drop m e) (sym q))

-- the first four, the next four and the last four
pub row_put : (d : List ℕ) (at : ℕ) (row o p q : List ℕ) (m k : ℕ) → at + length row ≤ length d → 8 ≤ length row → m + 4 ≡ length row → m ≤ 8 →
    o ≡ placed d at (take 4 row) → p ≡ placed o (at + 4) (take 4 (drop 4 row)) → k ≡ at + m → q ≡ placed p k (take 4 (drop m row)) → Written d at row q (at + length row)
row_put d at row o p q m k fits long em small eo ep ek ez =
    let lt : length (take 4 row) ≡ 4 = length-take-le 4 row (omega arith) in
    let u : List ℕ = take m row in
    let v : List ℕ = take (8 - m) (drop m row) in
    let w : List ℕ = take 4 (drop m row) in
    let lu : length u ≡ m = length-take-le m row (omega arith) in
    let lv : length v ≡ 8 - m = length-take-le (8 - m) (drop m row) (omega (arith, length-drop m row)) in
    let lw : length w ≡ 4 = length-take-le 4 (drop m row) (omega (arith, length-drop m row)) in
    let fu : at + length u ≤ length d = omega arith in
    let e₁ : p ≡ placed d at (take 8 row) =
    ep ∙ ap₂ (λ (x : List ℕ) (y : ℕ). placed x y (take 4 (drop 4 row))) eo (ap (λ (y : ℕ). at + y) (sym lt)) ∙ placed_then d at (take 4 row) (omega arith) (take 4 (drop 4 row)) ∙ ap (placed d at)
    (sym (take-add 4 4 row)) in
    let e₂ : p ≡ placed (placed d at u) (at + length u) v =
    e₁ ∙ ap (λ (y : ℕ). placed d at (take y row)) {x = 8} {y = m + (8 - m)} (omega arith) ∙ ap (placed d at) (take-add m (8 - m) row) ∙ sym (placed_then d at u fu v) in
    let e₃ : q ≡ placed d at (u ++ w) =
    ez ∙ ap₂ (λ (x : List ℕ) (y : ℕ). placed x y w) e₂ (ek ∙ ap (λ (y : ℕ). at + y) (sym lu)) ∙ placed_over (placed d at u) (at + length u) v w (omega (arith, length_placed d at u fu))
    (omega arith) ∙ placed_then d at u fu w in
    record { bytes = e₃ ∙ ap (placed d at) (sym (take-add m 4 row) ∙ take_all (m + 4) row (omega arith)); ends = refl }
