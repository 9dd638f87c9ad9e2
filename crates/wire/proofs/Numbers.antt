-- Numbers in four bytes, written one after another. Assumes nothing.
use Rattle.model.specs.Kit.{◌≡◌, sym, ap, ◌∙◌, List, [], ◌∷◌, ◌++◌, append-nil, ℕ, ◌+◌, ◌≤◌, arith, length, set, length-set}
use Rattle.model.specs.{Written.Written, Bytes.four_bytes}
use lib.ListN.{drop_of_length-le}
use Rattle.model.proofs.Written.{written_byte, written_then, fronted}
use Rattle.wire.specs.Wire.{three_numbers}

-- a text as long as the buffer is the buffer
pub whole : {d t e : List ℕ} {n : ℕ} → length t ≡ length d → Written d 0 t e n → e ≡ t
whole {d} {t} {e} {n} h w = (fronted w).bytes ∙ ap (λ (l : List ℕ). t ++ l) (drop_of_length-le d {i = length t} (omega arith)) ∙ append-nil t

pub put_two : (d : List ℕ) (at x y : ℕ) → at + 2 ≤ length d → Written d at (x ∷ y ∷ []) (set (set d at x) (at + 1) y) (at + 1 + 1)
put_two d at x y h =
    let v = written_byte d at x (omega arith) in
    written_then (omega arith) v (written_byte (set d at x) (at + 1) y (omega (arith, length-set d at x)))

pub put_four : (d : List ℕ) (at x y z u : ℕ) → at + 4 ≤ length d → Written d at (x ∷ y ∷ z ∷ u ∷ []) (set (set (set (set d at x) (at + 1) y) (at + 1 + 1) z) (at + 1 + 1 + 1) u) (at + 1 + 1 + 1 + 1)
put_four d at x y z u h =
    let e = set (set d at x) (at + 1) y in
    let n : length e ≡ length d = length-set (set d at x) (at + 1) y ∙ length-set d at x in
    written_then (omega arith) (put_two d at x y (omega arith)) (put_two e (at + 1 + 1) z u (omega arith))

pub put_three : {d e : List ℕ} {r : ℕ} {f : List ℕ} {s : ℕ} {g : List ℕ} {t : ℕ} (kind a b : ℕ) → length d ≡ 12 → Written d 0 (four_bytes kind) e r → Written e r (four_bytes a) f s → Written f s
    (four_bytes b) g t → g ≡ three_numbers kind a b
unfolding four_bytes three_numbers
put_three kind a b h u v w = whole (sym h) (written_then (omega (arith, u.ends, v.ends)) (written_then (omega (arith, u.ends)) u v) w)
