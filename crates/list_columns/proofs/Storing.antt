-- A whole store and all rows of a store, as the code writes them. Assumes nothing.
use Rattle.model.specs.Kit.{◌≡◌, refl, sym, ap, ap₂, ◌∙◌, subst, Bool, true, false, List, ℕ, ◌+◌, ◌*◌, ◌-◌, ◌/◌, ◌≤◌, ◌<◌, arith, length, take, drop, length-append, length-drop, take_all}
use Rattle.model.specs.{Verdict.accepted, Verdict.refused, Room.rows_in, Room.wrote, Room.refusal, Room.outcome_of, Room.room_after, Written.placed, Written.Written, Written.Fronted}
use native.Mathlib.Nat.{mul_comm, zero-add}
use Rattle.model.proofs.{Lists.T_of, Room.refused_out, Room.wrote_out, Written.written_then, Written.fronted}
use Rattle.list_columns.specs.Columns.{heading, columns_of, variables, plans, body, columns_in, rows_of, bytes_verdict, columns_verdict, is_store, rows_verdict}
use Rattle.list_columns.proofs.Cells.{heading_length, turned, turned_length}
use Rattle.list_columns.proofs.Asking.{Passed, passed, cells, few_bytes, refusal_is, store_e, asked_23, accepted_store}

-- ---- rows to columns
pub heading_fits : {n : ℕ} {b : List ℕ} {room : ℕ} → Passed n b (8 + length b) room → (8 ≤ room) × (n < 65536) × (length b / n < 65536) × (8 + n * (length b / n) < 65536)
heading_fits {n} {b} {room} p =
    let w = p.rows in
    (omega (arith, p.fits), omega (arith, w.most), omega (arith, w.many), omega (arith, few_bytes w, mul_comm n (length b / n), cells w))

pub columns_fit : {n : ℕ} {b : List ℕ} {room : ℕ} → Passed n b (8 + length b) room → (at k : ℕ) → at ≡ 0 + length (heading n k) → (length b / n * n ≤ length b) × (at + n * (length b / n) ≤ room)
columns_fit {n} {b} {room} p at k h = (omega (arith, cells p.rows), omega (arith, heading_length n k, mul_comm n (length b / n), cells p.rows, p.fits))

pub store_fronted : {d e : List ℕ} {at : ℕ} {f : List ℕ} (n : ℕ) (b : List ℕ) → length b / n * n ≡ length b → at ≤ length d → Written d 0 (heading n (length b / n)) e at → f ≡ placed e at
    (turned n (length b / n) b) → Fronted d (columns_of n b) f (at + length b)
unfolding columns_of rows_in
store_fronted {d} {e} {at} {f} n b whole fits v w =
    let t = turned n (length b / n) b in
    let same : at + length t ≡ at + length b = omega (arith, turned_length n (length b / n) b, mul_comm n (length b / n)) in
    let u : Written e at t f (at + length b) = record { bytes = w; ends = sym same } in
    fronted (written_then fits v u)

-- ---- columns to rows
pub body_is : (s : List ℕ) → take (length s - 8) (drop 8 s) ≡ body s
body_is s = take_all (length s - 8) (drop 8 s) (omega (arith, length-drop 8 s))

pub not_a_store : (s : List ℕ) (room : ℕ) (t d : List ℕ) → is_store s ≡ false → (refusal 23 0 ≡ outcome_of (rows_verdict s room) t) × (d ≡ room_after (rows_verdict s room) t d)
not_a_store s room t d e = refused_out 23 (rows_verdict s room) t d (λ q. omega arith) (sym (asked_23 s room false e))

-- b is the part after the header, p and q the first two numbers
module _ (s : List ℕ) (is : is_store s ≡ true) (b : List ℕ) (p q : ℕ) (eb : b ≡ body s) (ep : p ≡ variables s) (eq : q ≡ plans s) (d : List ℕ) where
  pub verdict_is : bytes_verdict p b (0 + length b) (length d) ≡ rows_verdict s (length d)
  verdict_is =
      ap₂ (λ (x : ℕ) (c : List ℕ). bytes_verdict x c (0 + length c) (length d)) ep eb
      ∙ ap (λ (k : ℕ). bytes_verdict (variables s) (body s) k (length d)) (zero-add (length (body s)))
      ∙ sym (asked_23 s (length d) true is)

  size : length b ≡ p * q
  size =
      let w = store_e s (T_of _ is) in
      let e : p * q ≡ variables s * plans s = ap₂ (λ (x y : ℕ). x * y) ep eq in
      omega (arith, ap length eb, length-drop 8 s, w.size)

  pub rows_fit : bytes_verdict p b (0 + length b) (length d) ≡ accepted → (p * q ≤ length b) × (q * p ≤ length d)
  rows_fit e = (omega (arith, size), omega (arith, size, mul_comm p q, (passed p b (0 + length b) (length d) e).fits))

  rows_are : turned q p b ≡ rows_of s
  unfolding rows_of columns_in
  rows_are = ap₂ (λ (x : ℕ) (c : List ℕ). turned q x c) ep eb ∙ ap (λ (x : ℕ). turned x (variables s) (body s)) eq

  pub rows_wrote : (e : List ℕ) → bytes_verdict p b (0 + length b) (length d) ≡ accepted → e ≡ placed d 0 (turned q p b) → (wrote (length b) ≡ outcome_of (rows_verdict s (length d)) (rows_of s)) ×
      (e ≡ room_after (rows_verdict s (length d)) (rows_of s) d)
  rows_wrote e a w =
      let n : length (turned q p b) ≡ length b = turned_length q p b ∙ mul_comm q p ∙ sym size in
      let v : Written d 0 (turned q p b) e (length b) = record { bytes = w; ends = sym n ∙ sym (zero-add (length (turned q p b))) } in
      let f = fronted (subst (λ (t : List ℕ). Written d 0 t e (length b)) rows_are v) in
      wrote_out (rows_verdict s (length d)) (rows_of s) d e (length b) (sym verdict_is ∙ a) f.bytes f.count

-- ---- what callers use: refusals have item 0, and what is written is short
pub columns_item : (n : ℕ) (b : List ℕ) (room number item : ℕ) → columns_verdict n b room ≡ refused number item → item ≡ 0
unfolding columns_verdict
columns_item n b room number item e = (refusal_is n b (8 + length b) room number item e).1

pub columns_size : (n : ℕ) (b : List ℕ) (room : ℕ) → columns_verdict n b room ≡ accepted → length (columns_of n b) ≤ 49160
unfolding columns_verdict columns_of rows_in
columns_size n b room e =
    let w = (passed n b (8 + length b) room e).rows in
    let k = length b / n in
    omega (arith, length-append (heading n k) (turned n k b), heading_length n k, turned_length n k b, mul_comm n k, cells w, few_bytes w)

pub rows_item : (s : List ℕ) (room number item : ℕ) → rows_verdict s room ≡ refused number item → item ≡ 0
rows_item s room number item e = go (is_store s) refl
  where
    go : (t : Bool) → is_store s ≡ t → item ≡ 0
    go true q = (refusal_is (variables s) (body s) (length (body s)) room number item (sym (asked_23 s room true q) ∙ e)).1
    go false q =
        let r : refused 23 0 ≡ refused number item = sym (asked_23 s room false q) ∙ e in
        let y : 0 ≡ item = cc in
        sym y

pub rows_size : (s : List ℕ) (room : ℕ) → rows_verdict s room ≡ accepted → length (rows_of s) ≤ 49152
unfolding rows_of columns_in
rows_size s room e =
    let is = accepted_store s room e in
    let w = store_e s (T_of _ is) in
    let p = (passed (variables s) (body s) (length (body s)) room (sym (asked_23 s room true is) ∙ e)).rows in
    omega (arith, turned_length (plans s) (variables s) (body s), mul_comm (plans s) (variables s), length-drop 8 s, w.size, few_bytes p)
