-- Numbers put one after another, and a buffer by its indexes. Assumes nothing.
use Rattle.model.specs.Kit.{◌≡◌, refl, sym, ap, ap₂, ◌∙◌, subst, Bool, true, false, List, [], ◌∷◌, ◌++◌, Memᴰ-head, ℕ, zero, suc, ◌+◌, ◌*◌, ◌-◌, ◌/◌, ◌%◌, ◌≤◌, ◌<◌, suc-mul, arith, ltb, length}
use Rattle.model.specs.Kit.{take, drop, get_or, set, length-set, length-append, length-drop, take-append-drop, length-take-le, ltb-true, ltb-false}
use Rattle.model.specs.{Lists.flat, Lists.at, Run.listed_plans, Bytes.two_bytes, Written.placed, Written.Written}
use native.Mathlib.Nat.{zero-mul, mul-zero, div-add-mod', mod-lt, div-lt_iff_lt-mul}
use Rattle.model.proofs.Lists.{at_ext, at_append, at_skip, at_take, at_drop, get_d_below}
use Rattle.model.proofs.{Room.Wide, Room.wide_tail, Room.length_listed, Room.length_flat, Written.written_byte, Written.written_then}
use Rattle.list_columns.specs.Columns.{column, transposed, heading}
use Rattle.list_columns.proofs.Transposing.{at_column, length_transposed, transposed_wide}

-- ---- numbers
pub put_two : (d : List ℕ) (at x : ℕ) → at + 2 ≤ length d → Written d at (two_bytes x) (set (set d at (x % 256)) (at + 1) (x / 256)) (at + 1 + 1)
put_two d at x h =
    let v = written_byte d at (x % 256) (omega arith) in
    written_then (omega arith) v (written_byte (set d at (x % 256)) (at + 1) (x / 256) (omega (arith, length-set d at (x % 256))))

pub heading_length : (n k : ℕ) → length (heading n k) ≡ 8
unfolding heading
heading_length n k = refl

pub put_four : {d : List ℕ} {e : List ℕ} {r : ℕ} {f : List ℕ} {s : ℕ} {g : List ℕ} {t : ℕ} {h : List ℕ} {u : ℕ} (n k : ℕ) → 8 ≤ length d → Written d 0 (two_bytes n) e r → Written e r
    (two_bytes k) f s → Written f s (two_bytes 8) g t → Written g t (two_bytes (8 + n * k)) h u → Written d 0 (heading n k) h u
unfolding heading
put_four {d} n k fits w₁ w₂ w₃ w₄ =
    written_then (omega (arith, w₁.ends, w₂.ends, w₃.ends)) (written_then (omega (arith, w₁.ends, w₂.ends)) (written_then (omega (arith, w₁.ends)) w₁ w₂) w₃) w₄

-- ---- a text in a buffer by its indexes
pub placed_by : (d e : List ℕ) (start : ℕ) (t : List ℕ) → start + length t ≤ length d → length e ≡ length d → ((j : ℕ) → j < length t → at e (start + j) ≡ at t j) →
    ((j : ℕ) → j < start → at e j ≡ at d j) → ((j : ℕ) → start + length t ≤ j → at e j ≡ at d j) → e ≡ placed d start t
unfolding placed
placed_by d e start t fits same text before after = sym (take-append-drop n e) ∙ ap₂ (λ (x y : List ℕ). x ++ y) front back
  where
    n : ℕ
    n = start + length t

    head : length (take start d) ≡ start
    head = length-take-le start d (omega arith)

    whole : length (take start d ++ t) ≡ n
    whole = length-append (take start d) t ∙ ap (λ (k : ℕ). k + length t) head

    cell : (j : ℕ) → j < n → (b : Bool) → ltb j start ≡ b → at e j ≡ at (take start d ++ t) j
    cell j h true e' = let l : j < start = ltb-true j start e' in before j l ∙ sym (at_append (take start d) t j (omega (arith, head)) ∙ at_take start d j l)
    cell j h false e' =
        let l : start ≤ j = ltb-false j start e' in
        let k : start + (j - start) ≡ j = omega arith in
        sym (ap (λ (i : ℕ). at e i) k) ∙ text (j - start) (omega arith) ∙ sym (at_skip (take start d) t start j head l)

    front : take n e ≡ take start d ++ t
    front =
        let m : length (take n e) ≡ n = length-take-le n e (omega arith) in
        at_ext (take n e) (take start d ++ t) (m ∙ sym whole) (λ j h. at_take n e j (omega arith) ∙ cell j (omega arith) (ltb j start) refl)

    back : drop n e ≡ drop n d
    back = at_ext (drop n e) (drop n d) (omega (arith, length-drop n e, length-drop n d)) (λ j h. at_drop n e j ∙ after (n + j) (omega arith) ∙ sym (at_drop n d j))

-- ---- cells of rows, of columns and of bytes
flat_at : (w : ℕ) (rows : List (List ℕ)) → Wide w rows → (x i : ℕ) → x < length rows → i < w → at (flat rows) (x * w + i) ≡ at (get_or rows x []) i
unfolding flat
flat_at w [] wide x i h l = absurd (omega arith)
flat_at w (r ∷ rows) wide zero i h l =
    let e : length r ≡ w = wide r (Memᴰ-head refl) in
    ap (λ (j : ℕ). at (r ++ flat rows) j) (omega (arith, zero-mul w)) ∙ at_append r (flat rows) i (omega arith)
flat_at w (r ∷ rows) wide (suc x) i h l =
    let e : length r ≡ w = wide r (Memᴰ-head refl) in
    at_skip r (flat rows) w (suc x * w + i) e (omega (arith, suc-mul x w))
    ∙ ap (λ (j : ℕ). at (flat rows) j) (omega (arith, suc-mul x w))
    ∙ flat_at w rows (wide_tail wide) x i (omega arith) l

listed_at : (n k : ℕ) (b : List ℕ) (i x : ℕ) → i < k → x < n → at (get_or (listed_plans n k b) i []) x ≡ at b (i * n + x)
unfolding listed_plans
listed_at n zero b i x h l = absurd (omega arith)
listed_at n (suc k) b zero x h l = at_take n b x l ∙ ap (λ (j : ℕ). at b j) (omega (arith, zero-mul n))
listed_at n (suc k) b (suc i) x h l = listed_at n k (drop n b) i x (omega arith) l ∙ at_drop n b (i * n + x) ∙ ap (λ (j : ℕ). at b j) (omega (arith, suc-mul i n))

positive : (w h j : ℕ) → j < w * h → 0 < h
positive w zero j l = absurd (omega (arith, mul-zero w))
positive w (suc h) j l = omega arith

-- ---- the columns of `height` rows of `width` bytes, one after another
module _ (width height : ℕ) (b : List ℕ) where
  abbrev pub turned : List ℕ
  turned = flat (transposed width (listed_plans width height b))

  narrow : Wide height (transposed width (listed_plans width height b))
  narrow = subst (λ (k : ℕ). Wide k (transposed width (listed_plans width height b))) (length_listed width height b) (transposed_wide width (listed_plans width height b))

  pub turned_length : length turned ≡ width * height
  turned_length = length_flat height (transposed width (listed_plans width height b)) narrow ∙ ap (λ (k : ℕ). k * height) (length_transposed width (listed_plans width height b))

  -- cell x, i of the columns is cell i, x of the rows
  pub turned_at : (x i : ℕ) → x < width → i < height → at turned (x * height + i) ≡ at b (i * width + x)
  unfolding transposed
  turned_at x i h l =
      let rows = listed_plans width height b in
      flat_at height (transposed width rows) narrow x i (omega (arith, length_transposed width rows)) l
      ∙ ap (λ (c : List ℕ). at c i) (get_d_below (column rows) [] width x h)
      ∙ at_column rows x i (omega (arith, length_listed width height b))
      ∙ listed_at width height b i x l h

  -- a buffer that holds each cell, and is as it came elsewhere, holds the columns
  pub turned_placed : (d e : List ℕ) (start : ℕ) → start + width * height ≤ length d → length e ≡ length d →
      ((x i : ℕ) → x < width → i < height → at e (start + (x * height + i)) ≡ at b (i * width + x)) → ((j : ℕ) → j < start → at e j ≡ at d j) →
      ((j : ℕ) → start + width * height ≤ j → at e j ≡ at d j) → e ≡ placed d start turned
  turned_placed d e start fits same cell before after =
      placed_by d e start turned (omega (arith, turned_length)) same each before (λ j h. after j (omega (arith, turned_length)))
    where
      each : (j : ℕ) → j < length turned → at e (start + j) ≡ at turned j
      each j h =
          let l : j < width * height = omega (arith, turned_length) in
          let some : 0 < height = positive width height j l in
          let x = j / height in
          let i = j % height in
          let k : x * height + i ≡ j = div-add-mod' j height in
          let x< : x < width = (div-lt_iff_lt-mul some).1 l in
          let i< : i < height = mod-lt j some in
          ap (λ (m : ℕ). at e (start + m)) (sym k) ∙ cell x i x< i< ∙ sym (turned_at x i x< i<) ∙ ap (λ (m : ℕ). at turned m) k
