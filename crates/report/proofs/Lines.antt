-- Fields, lines and the lines of the listed plans, put one after the other. Assumes nothing.
use Rattle.model.specs.Kit.{◌≡◌, refl, sym, ap, ap₂, ◌∙◌, subst, List, [], ◌∷◌, ◌++◌, map, append_assoc, append-nil, ℕ, zero, suc, ◌+◌, ◌*◌, ◌-◌, ◌≤◌, ◌<◌, suc-mul, mul-le-mul_right, add-one, arith}
use Rattle.model.specs.Kit.{length, take, drop, get_or, length-append, take-append-drop, take_all}
use Rattle.model.specs.{Lists.flat, Run.Ending, Run.plans_in, Run.listed_plans, Written.Written, Written.Fronted}
use mathlib.Core.List.{map-append}
use native.Mathlib.Nat.{zero-mul, mul-le-mul_left, add_comm, add-zero, add-sub_cancel_left}
use lib.Seq.{take-suc, take-add, drop-drop, take-append_seam}
use Rattle.report.specs.{Report.decimal, Report.line, Report.plan_word, Report.figure_line, Report.ending_line, Report.result_text, Inner.Text.field, Inner.Text.fields}
use Rattle.report.specs.Inner.Text.{plan_lines, ended_text, room, Fitted}
use Rattle.families_figure.specs.Figure.{Figure, dash}
use Rattle.model.proofs.{Lists.flat_append, Written.written_then, Written.fronted}
use Rattle.report.proofs.Digits.{decimal_most, decimal_below}

-- ---- fields
pub field_most : (n : ℕ) → length (field n) ≤ 21
field_most n = omega (arith, decimal_most n)

pub fields_snoc : (l : List ℕ) (i : ℕ) → i < length l → fields (take (i + 1) l) ≡ fields (take i l) ++ field (get_or l i 0)
unfolding fields flat
fields_snoc l i h =
    ap (λ (k : ℕ). flat (map field (take k l))) (add-one i)
    ∙ ap (λ (r : List ℕ). flat (map field r)) (take-suc l i 0 h)
    ∙ ap flat (map-append field (take i l) (get_or l i 0 ∷ []))
    ∙ flat_append (map field (take i l)) (field (get_or l i 0) ∷ [])
    ∙ ap (λ (r : List ℕ). flat (map field (take i l)) ++ r) (append-nil (field (get_or l i 0)))

-- the length of a row with one value more, and of a front of a row
pub fields_step : (l : List ℕ) (i : ℕ) → i < length l → length (fields (take (i + 1) l)) ≡ length (fields (take i l)) + (1 + length (decimal (get_or l i 0)))
fields_step l i h = let e = ap length (fields_snoc l i h) in let f = length-append (fields (take i l)) (field (get_or l i 0)) in omega arith

pub fields_part : (l : List ℕ) (k : ℕ) → length (fields (take k l)) ≤ length (fields l)
unfolding fields flat
fields_part l k =
    let e = ap length (sym (ap (λ (r : List ℕ). flat (map field r)) (take-append-drop k l)) ∙ ap flat (map-append field (take k l) (drop k l)) ∙ flat_append (map field (take k l))
    (map field (drop k l))) in
    let f = length-append (flat (map field (take k l))) (flat (map field (drop k l))) in
    omega arith

-- one value more of a row
pub row_turn : {d : List ℕ} {at i : ℕ} {e : List ℕ} {n : ℕ} {f : List ℕ} {m : ℕ} (row : List ℕ) → i < length row → n ≤ length d → Written d at (fields (take i row)) e n → Written e n
    (field (get_or row i 0)) f m → Written d at (fields (take (i + 1) row)) f m
row_turn {d} {at} {i} {e} {n} {f} {m} row h fits v w = subst (λ (l : List ℕ). Written d at l f m) (sym (fields_snoc row i h)) (written_then fits v w)

pub row_whole : {d : List ℕ} {at i : ℕ} {e : List ℕ} {n : ℕ} (row : List ℕ) → length row ≤ i → Written d at (fields (take i row)) e n → Written d at (fields row) e n
row_whole {d} {at} {i} {e} {n} row h w = subst (λ (l : List ℕ). Written d at (fields l) e n) (take_all i row h) w

-- ---- lines
pub put_line : {d : List ℕ} {at : ℕ} {word e : List ℕ} {r : ℕ} {f : List ℕ} {s : ℕ} {g : List ℕ} {t : ℕ} (ns : List ℕ) → s ≤ length d → Written d at word e r → Written e r (fields ns) f s
    → Written f s (10 ∷ []) g t → Written d at (line word ns) g t
unfolding line fields
put_line ns fits u v w = written_then fits (written_then (omega (arith, v.ends)) u v) w

pub line_length : (ns : List ℕ) → length (line plan_word ns) ≡ length (fields ns) + 5
unfolding line fields
line_length ns = omega (arith, length-append (plan_word ++ fields ns) (10 ∷ []), length-append plan_word (fields ns))

-- a word and three numbers; a word and two
pub put_three : {d : List ℕ} {at : ℕ} {word e : List ℕ} {r : ℕ} {f : List ℕ} {s : ℕ} {g : List ℕ} {t : ℕ} {h : List ℕ} {u : ℕ} {i : List ℕ} {v : ℕ} (a b c : ℕ) → u ≤ length d
    → Written d at word e r → Written e r (field a) f s → Written f s (field b) g t → Written g t (field c) h u → Written h u (10 ∷ []) i v → Written d at (line word (a ∷ b ∷ c ∷ [])) i v
unfolding line flat
put_three {d} {at} {word} {e} {r} {f} {s} {g} {t} {h} {u} {i} {v} a b c fits w₁ w₂ w₃ w₄ w₅ =
    let s≤ : s ≤ length d = omega (arith, w₃.ends, w₄.ends) in
    let t≤ : t ≤ length d = omega (arith, w₄.ends) in
    let same : word ++ field a ++ field b ++ field c ≡ word ++ (field a ++ (field b ++ (field c ++ []))) = simp (append_assoc, append-nil) in
    subst (λ (l : List ℕ). Written d at (l ++ (10 ∷ [])) i v) same
    (written_then fits (written_then t≤ (written_then s≤ (written_then (omega (arith, w₂.ends)) w₁ w₂) w₃) w₄) w₅)

pub put_two : {d : List ℕ} {at : ℕ} {word e : List ℕ} {r : ℕ} {f : List ℕ} {s : ℕ} {g : List ℕ} {t : ℕ} {h : List ℕ} {u : ℕ} (a b : ℕ) → t ≤ length d → Written d at word e r → Written e r
    (field a) f s → Written f s (field b) g t → Written g t (10 ∷ []) h u → Written d at (line word (a ∷ b ∷ [])) h u
unfolding line flat
put_two {d} {at} {word} {e} {r} {f} {s} {g} {t} {h} {u} a b fits w₁ w₂ w₃ w₄ =
    let s≤ : s ≤ length d = omega (arith, w₃.ends) in
    let same : word ++ field a ++ field b ≡ word ++ (field a ++ (field b ++ [])) = simp (append_assoc, append-nil) in
    subst (λ (l : List ℕ). Written d at (l ++ (10 ∷ [])) h u) same
    (written_then fits (written_then s≤ (written_then (omega (arith, w₂.ends)) w₁ w₂) w₃) w₄)

-- a word, two numbers and the dash
pub put_dash : {d : List ℕ} {at : ℕ} {word e : List ℕ} {r : ℕ} {f : List ℕ} {s : ℕ} {g : List ℕ} {t : ℕ} {h : List ℕ} {u : ℕ} (a b : ℕ) → t ≤ length d → Written d at word e r → Written e r
    (field a) f s → Written f s (field b) g t → Written g t (32 ∷ 45 ∷ 10 ∷ []) h u →
    Written d at (figure_line word a b dash) h u
put_dash a b fits w₁ w₂ w₃ w₄ = written_then fits (written_then (omega (arith, w₃.ends)) (written_then (omega (arith, w₂.ends, w₃.ends)) w₁ w₂) w₃) w₄

-- ---- the lines of the listed plans
pub listed_snoc : (n k : ℕ) (l : List ℕ) → listed_plans n (suc k) l ≡ listed_plans n k l ++ (take n (drop (k * n) l) ∷ [])
unfolding listed_plans
listed_snoc n zero l = ap (λ (j : ℕ). take n (drop j l) ∷ []) (sym (zero-mul n))
listed_snoc n (suc k) l =
    ap (λ (r : List (List ℕ)). take n l ∷ r)
    (listed_snoc n k (drop n l)
    ∙ ap (λ (r : List ℕ). listed_plans n k (drop n l) ++ (take n r ∷ []))
    (drop-drop (k * n) n l ∙ ap (λ (j : ℕ). drop j l) (add_comm n (k * n) ∙ sym (suc-mul k n))))

-- a row that is one of the plans' lies inside the list
pub row_inside : (n i plans at len : ℕ) → i < plans → at ≡ i * n → plans * n ≤ len → at + n ≤ len
row_inside n i plans at len h e k = omega (arith, suc-mul i n, mul-le-mul_right n h)

-- one plan more
pub plans_snoc : (n i : ℕ) (l : List ℕ) → flat (map (line plan_word) (listed_plans n (i + 1) l)) ≡ flat (map (line plan_word) (listed_plans n i l)) ++ line plan_word (take n (drop (i * n) l))
unfolding flat
plans_snoc n i l =
    ap (λ (k : ℕ). flat (map (line plan_word) (listed_plans n k l))) (add-one i)
    ∙ ap (λ (r : List (List ℕ)). flat (map (line plan_word) r)) (listed_snoc n i l)
    ∙ ap flat (map-append (line plan_word) (listed_plans n i l) (take n (drop (i * n) l) ∷ []))
    ∙ flat_append (map (line plan_word) (listed_plans n i l)) (line plan_word (take n (drop (i * n) l)) ∷ [])
    ∙ ap (λ (r : List ℕ). flat (map (line plan_word) (listed_plans n i l)) ++ r) (append-nil (line plan_word (take n (drop (i * n) l))))

-- a row of the list, as it is lent
pub row_at : (n i at : ℕ) (l : List ℕ) → at ≡ i * n → take (at + n - at) (drop at l) ≡ take n (drop (i * n) l)
row_at n i at l p = ap (λ (k : ℕ). take k (drop at l)) (add-sub_cancel_left at n) ∙ ap (λ (k : ℕ). take n (drop k l)) p

pub plans_turn : {d e : List ℕ} {r : ℕ} {f : List ℕ} {s : ℕ} (n i at : ℕ) (l : List ℕ) → at ≡ i * n → r ≤ length d → Written d 0 (plan_lines n i l) e r → Written e r
    (line plan_word (take (at + n - at) (drop at l))) f s → Written d 0 (plan_lines n (i + 1) l) f s
plans_turn {d} {e} {r} {f} {s} n i at l p fits v w =
    subst (λ (t : List ℕ). Written d 0 t f s) (sym (plans_snoc n i l))
    (written_then fits v (subst (λ (t : List ℕ). Written e r (line plan_word t) f s) (row_at n i at l p) w))

-- the length of the lines with one more, and with so many more
pub lines_step : (n i at : ℕ) (l : List ℕ) → at ≡ i * n → length (plan_lines n (i + 1) l) ≡ length (plan_lines n i l) + length (line plan_word (take (at + n - at) (drop at l)))
lines_step n i at l p =
    ap length (plans_snoc n i l) ∙ length-append (plan_lines n i l) (line plan_word (take n (drop (i * n) l))) ∙ ap (λ (r : List ℕ). length (plan_lines n i l) + length (line plan_word r))
    (sym (row_at n i at l p))

-- the lines of k plans are five bytes each beside the fields of their values
fields_append : (a b : List ℕ) → fields (a ++ b) ≡ fields a ++ fields b
unfolding fields
fields_append a b = ap flat (map-append field a b) ∙ flat_append (map field a) (map field b)

pub lines_length : (n k : ℕ) (l : List ℕ) → length (plan_lines n k l) ≡ 5 * k + length (fields (take (k * n) l))
unfolding listed_plans flat fields
lines_length n zero l =
    let e : length (plan_lines n 0 l) ≡ 0 = refl in
    let f : length (fields (take 0 l)) ≡ 0 = refl in
    omega (arith, e, f, ap (λ (j : ℕ). length (fields (take j l))) (zero-mul n))
lines_length n (suc k) l =
    let e = lines_step n k (k * n) l refl in
    let row = take n (drop (k * n) l) in
    let f = ap (λ (r : List ℕ). length (line plan_word r)) (row_at n k (k * n) l refl) in
    let g = ap (λ (j : ℕ). length (fields (take j l))) (suc-mul k n) in
    let h = ap (λ (r : List ℕ). length (fields r)) (take-add (k * n) n l) in
    let i = ap length (fields_append (take (k * n) l) row) in
    let j = length-append (fields (take (k * n) l)) (fields row) in
    let m = ap (λ (m : ℕ). length (plan_lines n m l)) (add-one k) in
    omega (arith, e, f, g, h, i, j, m, line_length row, lines_length n k l)

-- a value of one byte has at most three digits, and a plan of twelve such values 53 bytes
fields_most : (k : ℕ) (l : List ℕ) → ((i : ℕ) → get_or l i 0 < 256) → length (fields (take k l)) ≤ 4 * k
unfolding fields flat
fields_most zero l h = omega arith
fields_most (suc k) [] h = omega arith
fields_most (suc k) (x ∷ l) h =
    let e = length-append (field x) (fields (take k l)) in
    omega (arith, e, decimal_below 2 x (omega (arith, h 0)), fields_most k l (λ i. h (suc i)))

pub lines_most : (n k : ℕ) (l : List ℕ) → n ≤ 12 → ((i : ℕ) → get_or l i 0 < 256) → length (plan_lines n k l) ≤ 53 * k
lines_most n k l few h = omega (arith, lines_length n k l, fields_most (k * n) l h, mul-le-mul_left k few)

lines_more : (n i k : ℕ) (l : List ℕ) → length (plan_lines n i l) ≤ length (plan_lines n (i + k) l)
lines_more n i zero l = omega (arith, ap (λ (m : ℕ). length (plan_lines n m l)) (add-zero i))
lines_more n i (suc k) l =
    let e = lines_step n (i + k) ((i + k) * n) l refl in
    let s : i + suc k ≡ i + k + 1 = omega arith in
    omega (arith, ap (λ (m : ℕ). length (plan_lines n m l)) s, lines_more n i k l)

pub lines_fit : (n i plans : ℕ) (l : List ℕ) → i < plans → length (plan_lines n (i + 1) l) ≤ length (plan_lines n plans l)
lines_fit n i plans l h = subst (λ (m : ℕ). length (plan_lines n (i + 1) l) ≤ length (plan_lines n m l)) (let e : i + 1 + (plans - (i + 1)) ≡ plans = omega arith in e)
    (lines_more n (i + 1) (plans - (i + 1)) l)

-- ---- the whole report
-- a line that stands at the front of a buffer
pub front_taken : {d t after : List ℕ} {n : ℕ} → Fronted d t after n → take n after ≡ t
front_taken {d} {t} f = ap₂ (λ (k : ℕ) (l : List ℕ). take k l) f.count f.bytes ∙ take-append_seam t (drop (length t) d)

pub front_inside : {d t after : List ℕ} {n : ℕ} → Fronted d t after n → n ≤ length after
front_inside {d} {t} f = omega (arith, f.count, ap length f.bytes, length-append t (drop (length t) d))

-- the lines of the plans and the last line, where the buffer is shorter, and where they are put
module _ (d lines last : List ℕ) (r : ℕ) (counted : r ≡ length lines + length last) (most : r ≤ room) where
  pub too_long : length d < r → Fitted d (lines ++ last) d r
  too_long h = let e = length-append lines last in record { count = omega arith; most = most; fits = λ f. absurd (omega arith); short = λ f. refl }

  pub both_put : {e : List ℕ} {at : ℕ} {after : List ℕ} {k : ℕ} → r ≤ length d → Written d 0 lines e at → Written e at last after k → Fitted d (lines ++ last) after k
  both_put h v w =
      let f = fronted (written_then (omega (arith, v.ends)) v w) in
      let e = length-append lines last in
      record { count = f.count; most = omega (arith, f.count); fits = λ z. f.bytes; short = λ z. absurd (omega arith) }

-- the plans and then the ending are the text of an ending
pub ended_fits : {d after : List ℕ} {r : ℕ} (end : Ending) (figure : Figure) (n : ℕ) (list last : List ℕ) → last ≡ ending_line end figure → Fitted d (plan_lines n (plans_in end) list ++ last) after r
    → Fitted d (ended_text end figure n list) after r
unfolding ended_text result_text
ended_fits {d} {after} {r} end figure n list last e f = subst (λ (l : List ℕ). Fitted d (plan_lines n (plans_in end) list ++ l) after r) e f

-- without plans the last line is the text
pub alone_fits : {d after : List ℕ} {r : ℕ} {last t : List ℕ} (n : ℕ) (list : List ℕ) → last ≡ t → Fitted d (plan_lines n 0 list ++ last) after r → Fitted d t after r
unfolding listed_plans flat
alone_fits {d} {after} {r} n list e f = subst (λ (l : List ℕ). Fitted d l after r) e f
