-- The claims of paper 02, #103. Assumes nothing.
use Rattle.model.specs.Kit.{◌≡◌, refl, sym, ap, ap₂, ◌∙◌, subst, Bool, true, false, List, [], ◌∷◌, ◌++◌, map, ℕ, ◌+◌, ◌*◌, ◌/◌, ◌%◌, ◌≤◌, ◌<◌, arith, T, leb, ltb, ltb→lt, length, take, get_or}
use Rattle.model.specs.Kit.{length-append, length-drop, take-append-drop, length-take-le, get_or-take, leb-true, leb-false}
use Rattle.model.specs.{Lists.all, Lists.flat, Lists.up_from, Lists.below, Lists.at, Bytes.two_bytes, Sheet.«word», Run.listed_plans, Room.rows_in, Verdict.accepted, Verdict.refused}
use native.Mathlib.Nat.{mul_comm, mul-mod_left, mul-div_cancel}
use Rattle.model.proofs.Lists.{of_T, T_of, all_e, map_ext, below_e, at_out, mem_at}
use Rattle.model.proofs.Room.{Wide, length_listed, listed_wide, length_flat, cut_flat, flat_cut}
use Rattle.list_columns.specs.Columns.{transposed, heading, columns_of, variables, plans, body, columns_in, rows_of, small_values, bytes_verdict, columns_verdict, is_store, rows_verdict}
use Rattle.list_columns.specs.Inner.Claims.{RowsBack, StoreBack, Store, StoresOnly, StoreTest}
use Rattle.list_columns.proofs.Asking.{cells, Passed, passed, passes, store_e, store_i, no_store, asked_23, refusal_is, accepted_store}
use Rattle.list_columns.proofs.{Cells.heading_length, Transposing.map_places, Transposing.length_transposed, Transposing.transposed_wide, Transposing.twice, Transposing.small_transposed}

-- ---- 23
pub store_test : StoreTest
store_test s = ((λ e. store_e s (T_of _ e)), λ w. of_T _ (store_i w))

pub stores_only : StoresOnly
stores_only s room = (only, λ h. asked_23 s room false (no_store s h))
  where
    only : rows_verdict s room ≡ refused 23 0 → Store s → ⊥
    only e w = omega (arith, (refusal_is (variables s) (body s) (length (body s)) room 23 0 (sym (asked_23 s room true (of_T _ (store_i w))) ∙ e)).0)

-- ---- a store by its header and its columns
module _ (n k : ℕ) (cols : List ℕ) where
  abbrev whole : List ℕ
  whole = heading n k ++ cols

  variables_is : variables whole ≡ n
  unfolding heading «word» at
  variables_is = let e : n % 256 + 256 * (n / 256) ≡ n = omega arith in e

  plans_is : plans whole ≡ k
  unfolding heading «word» at
  plans_is = let e : k % 256 + 256 * (k / 256) ≡ k = omega arith in e

  offset_is : «word» whole 4 ≡ 8
  unfolding heading «word» at
  offset_is = refl

  total_is : «word» whole 6 ≡ 8 + n * k
  unfolding heading «word» at
  total_is = let e : (8 + n * k) % 256 + 256 * ((8 + n * k) / 256) ≡ 8 + n * k = omega arith in e

  body_is : body whole ≡ cols
  unfolding heading
  body_is = refl

  length_is : length cols ≡ n * k → length whole ≡ 8 + n * k
  length_is e = omega (arith, length-append (heading n k) cols, heading_length n k)

  a_store : length cols ≡ n * k → Store whole
  a_store e =
      let l = length_is e in
      record { long = omega arith; offset = offset_is; total = l ∙ sym total_is; size = l ∙ sym (ap₂ (λ (x y : ℕ). 8 + x * y) variables_is plans_is) }

-- bytes in rows pass the questions
fine : (n k : ℕ) (b : List ℕ) (size room : ℕ) → 1 ≤ n → n ≤ 12 → k ≤ 4096 → length b ≡ k * n → small_values b ≡ true → size ≤ room → bytes_verdict n b size room ≡ accepted
fine n k b size room some most many e s f =
    let d : length b / n ≡ k = ap (λ (j : ℕ). j / n) e ∙ mul-div_cancel k some in
    sym (passes n b size room (record { some = some; most = most; whole = ap (λ (j : ℕ). j % n) e ∙ mul-mod_left k n; many = omega arith }) s f)

-- ---- rows to columns to rows
pub rows_back : RowsBack
unfolding columns_verdict columns_of rows_in rows_of columns_in
rows_back n b room back accept fits = (verdict, rows)
  where
    p : Passed n b (8 + length b) room
    p = passed n b (8 + length b) room accept

    k : ℕ
    k = length b / n

    rs : List (List ℕ)
    rs = listed_plans n k b

    count : length rs ≡ k
    count = length_listed n k b

    wide : Wide n rs
    wide = listed_wide n k b (omega (arith, cells p.rows))

    columns : List (List ℕ)
    columns = transposed n rs

    narrow : Wide k columns
    narrow = subst (λ (j : ℕ). Wide j columns) count (transposed_wide n rs)

    size : length (flat columns) ≡ n * k
    size = length_flat k columns narrow ∙ ap (λ (j : ℕ). j * k) (length_transposed n rs)

    s : List ℕ
    s = heading n k ++ flat columns

    joined : flat rs ≡ b
    joined = flat_cut n k b (cells p.rows)

    cut : listed_plans k n (flat columns) ≡ columns
    cut = subst (λ (j : ℕ). listed_plans k j (flat columns) ≡ columns) (length_transposed n rs) (cut_flat k columns narrow)

    again : transposed k columns ≡ rs
    again = subst (λ (j : ℕ). transposed j columns ≡ rs) count (twice n rs wide)

    rows : flat (transposed (plans s) (listed_plans (plans s) (variables s) (body s))) ≡ b
    rows =
        ap₂ (λ (x y : ℕ). flat (transposed x (listed_plans x y (body s)))) (plans_is n k (flat columns)) (variables_is n k (flat columns))
        ∙ ap (λ (c : List ℕ). flat (transposed k (listed_plans k n c))) (body_is n k (flat columns))
        ∙ ap (λ (c : List (List ℕ)). flat (transposed k c)) cut
        ∙ ap flat again
        ∙ joined

    small : small_values (flat columns) ≡ true
    small = small_transposed n rs wide (ap small_values joined ∙ p.small)

    inner : bytes_verdict n (flat columns) (length (flat columns)) back ≡ accepted
    inner =
        let w = p.rows in
        fine n k (flat columns) (length (flat columns)) back w.some w.most w.many (size ∙ mul_comm n k) small (omega (arith, size, mul_comm n k, cells w))

    verdict : rows_verdict s back ≡ accepted
    verdict =
        asked_23 s back true (of_T _ (store_i (a_store n k (flat columns) size)))
        ∙ ap₂ (λ (x : ℕ) (c : List ℕ). bytes_verdict x c (length c) back) (variables_is n k (flat columns)) (body_is n k (flat columns))
        ∙ inner

-- ---- columns to rows to columns
take_places : (k : ℕ) (s : List ℕ) → k ≤ length s → take k s ≡ map (λ j. at s j) (below k)
unfolding at
take_places k s h =
    let e : length (take k s) ≡ k = length-take-le k s h in
    sym (map_places (take k s) 0)
    ∙ ap (λ (n : ℕ). map (λ j. get_or (take k s) j 0) (below n)) e
    ∙ map_ext (λ j. get_or (take k s) j 0) (λ j. get_or s j 0) (below k) (λ j m. get_or-take k s j 0 (below_e k j m))

two_back : (s : List ℕ) (o : ℕ) → at s o < 256 → two_bytes («word» s o) ≡ at s o ∷ at s (o + 1) ∷ []
unfolding «word»
two_back s o h =
    let x = at s o in
    let y = at s (o + 1) in
    let low : (x + 256 * y) % 256 ≡ x = omega arith in
    let high : (x + 256 * y) / 256 ≡ y = omega arith in
    ap₂ (λ (i j : ℕ). i ∷ j ∷ []) low high

heading_back : (s : List ℕ) → Store s → ((i : ℕ) → at s i < 256) → heading (variables s) (plans s) ≡ take 8 s
unfolding heading below up_from
heading_back s w small =
    ap₂ (λ (x y : ℕ). two_bytes (variables s) ++ two_bytes (plans s) ++ two_bytes x ++ two_bytes y) (sym w.offset) (sym w.size ∙ w.total)
    ∙ ap₂ (λ (x y : List ℕ). x ++ y ++ two_bytes («word» s 4) ++ two_bytes («word» s 6)) (two_back s 0 (small 0)) (two_back s 2 (small 2))
    ∙ ap₂ (λ (x y : List ℕ). (at s 0 ∷ at s 1 ∷ []) ++ (at s 2 ∷ at s 3 ∷ []) ++ x ++ y) (two_back s 4 (small 4)) (two_back s 6 (small 6))
    ∙ sym (take_places 8 s w.long)

byte_at : (s : List ℕ) → T (all (λ v. ltb v 256) s) → (i : ℕ) → at s i < 256
byte_at s t i = go (leb (length s) i) refl
  where
    go : (b : Bool) → leb (length s) i ≡ b → at s i < 256
    go true e = omega (arith, at_out s i (leb-true (length s) i e))
    go false e = ltb→lt (at s i) 256 (all_e (λ v. ltb v 256) s t (at s i) (mem_at s i (leb-false (length s) i e)))

pub store_back : StoreBack
unfolding columns_verdict columns_of rows_in rows_of columns_in
store_back s room back bytes accept fits = (verdict, store)
  where
    is : is_store s ≡ true
    is = accepted_store s room accept

    w : Store s
    w = store_e s (T_of _ is)

    n : ℕ
    n = variables s

    k : ℕ
    k = plans s

    p : Passed n (body s) (length (body s)) room
    p = passed n (body s) (length (body s)) room (sym (asked_23 s room true is) ∙ accept)

    whole : n * k ≡ length (body s)
    whole = omega (arith, length-drop 8 s, w.size)

    columns : List (List ℕ)
    columns = listed_plans k n (body s)

    count : length columns ≡ n
    count = length_listed k n (body s)

    narrow : Wide k columns
    narrow = listed_wide k n (body s) (omega (arith, whole))

    joined : flat columns ≡ body s
    joined = flat_cut k n (body s) whole

    rs : List (List ℕ)
    rs = transposed k columns

    wide : Wide n rs
    wide = subst (λ (j : ℕ). Wide j rs) count (transposed_wide k columns)

    size : length (flat rs) ≡ k * n
    size = length_flat n rs wide ∙ ap (λ (j : ℕ). j * n) (length_transposed k columns)

    height : length (flat rs) / n ≡ k
    height = ap (λ (j : ℕ). j / n) size ∙ mul-div_cancel k p.rows.some

    again : transposed n rs ≡ columns
    again = subst (λ (j : ℕ). transposed j rs ≡ columns) count (twice k columns narrow)

    cut : listed_plans n k (flat rs) ≡ rs
    cut = subst (λ (j : ℕ). listed_plans n j (flat rs) ≡ rs) (length_transposed k columns) (cut_flat n rs wide)

    store : heading n (length (flat rs) / n) ++ flat (transposed n (listed_plans n (length (flat rs) / n) (flat rs))) ≡ s
    store =
        ap (λ (j : ℕ). heading n j ++ flat (transposed n (listed_plans n j (flat rs)))) height
        ∙ ap (λ (c : List (List ℕ)). heading n k ++ flat (transposed n c)) cut
        ∙ ap (λ (c : List (List ℕ)). heading n k ++ flat c) again
        ∙ ap₂ (λ (x y : List ℕ). x ++ y) (heading_back s w (byte_at s bytes)) joined
        ∙ take-append-drop 8 s

    many : k ≤ 4096
    many = subst (λ (j : ℕ). j ≤ 4096) (ap (λ (j : ℕ). j / n) (sym whole ∙ mul_comm n k) ∙ mul-div_cancel k p.rows.some) p.rows.many

    verdict : bytes_verdict n (flat rs) (8 + length (flat rs)) back ≡ accepted
    verdict =
        fine n k (flat rs) (8 + length (flat rs)) back p.rows.some p.rows.most many size (small_transposed k columns narrow (ap small_values joined ∙ p.small))
        (omega (arith, size, mul_comm n k, w.size))
