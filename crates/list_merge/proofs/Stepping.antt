-- The next row of two lists, and what is left of them after it. Assumes nothing.
use Rattle.model.specs.Kit.{◌≡◌, refl, sym, ap, ap₂, ◌∙◌, subst, Bool, true, false, not, ◌⊎◌, inl, inr, List, [], ◌∷◌, ◌++◌, Memᴰ, Memᴰ-head, Memᴰ-tail, Memᴰ-not_nil, ℕ, ◌+◌, ◌-◌}
use Rattle.model.specs.Kit.{◌%◌, ◌≤◌, ◌<◌, mod-eq_of_lt, arith, T, eqb, leb, ltb, length, take, drop, length-drop, length-take-le, eqb-true, eqb-false, eq-eqb, ne_eqb, leb-true, leb-false, ltb-true}
use Rattle.model.specs.Kit.{ltb-false, lt-ltb, le-ltb, dec_lt}
use Rattle.model.specs.{Lists.choose, Lists.both, Lists.either, Lists.flat, Lists.same, Room.rows_in}
use Rattle.std.proofs.Common.{cond, nat_cmp}
use native.Mathlib.Nat.{mod-eq-sub-mod}
use lib.Seq.{take-nil}
use Rattle.model.proofs.Lists.{T_of, of_T, not_of, of_not, same_eq, same_refl, earlier_asym, earlier_trans, Sorted, length_none, never}
use Rattle.model.proofs.Room.{Wide, wide_tail, rows_wide, rows_none, rows_cons}
use Rattle.list_merge.specs.{Merge.ascends, Merge.union, Merge.merged_by, Merge.from_first, Merge.next_row, Inner.Inner.Places, Inner.Inner.way_of, Inner.Inner.Rests, Inner.Inner.Sorts}
use Rattle.list_merge.specs.{Inner.Inner.of_first, Inner.Inner.taken}
use Rattle.std.specs.declared.cmp.Ordering.{Ordering}
use Rattle.std.specs.declared.cmp.Ordering.TheVariants.{Less, Equal, Greater}
use Rattle.order.specs.Reordered.{read, earlier_by}
use Rattle.list_merge.proofs.{Reading.rows_equal, Reading.Earlier, Reading.sorted_of, Reading.ascends_of, Union.union_step}

-- ---- ways
pub way_before : (p q : Bool) → p ≡ true → Less ≡ way_of p q
way_before p q e = sym (ap (λ (t : Bool). way_of t q) e)

pub way_after : (p q : Bool) → p ≡ false → q ≡ true → Greater ≡ way_of p q
way_after p q e f = sym (ap₂ way_of e f)

pub way_same : (p q : Bool) → p ≡ false → q ≡ false → Equal ≡ way_of p q
way_same p q e f = sym (ap₂ way_of e f)

pub less_by : (room first second : ℕ) → first ≤ room → ltb (room - first) second ≡ ltb room (first + second)
less_by room first second h = go (ltb (room - first) second) refl
  where
    go : (t : Bool) → ltb (room - first) second ≡ t → t ≡ ltb room (first + second)
    go true e = sym (lt-ltb room (first + second) (omega (arith, ltb-true (room - first) second e)))
    go false e = sym (le-ltb room (first + second) (omega (arith, ltb-false (room - first) second e)))

-- the library's comparison of numbers
pub cmp_way : (x y : ℕ) → nat_cmp x y ≡ way_of (ltb x y) (ltb y x)
cmp_way x y = go (dec_lt x y) (dec_lt y x)
  where
    go : Dec (x < y) → Dec (y < x) → nat_cmp x y ≡ way_of (ltb x y) (ltb y x)
    go (yes l) d = ap (λ (b : Bool). cond b Less (cond (eqb x y) Equal Greater)) (lt-ltb x y l) ∙ way_before (ltb x y) (ltb y x) (lt-ltb x y l)
    go (no m) (yes l) =
        ap₂ (λ (b e : Bool). cond b Less (cond e Equal Greater)) (le-ltb x y (omega arith)) (ne_eqb x y (λ z. omega arith))
        ∙ way_after (ltb x y) (ltb y x) (le-ltb x y (omega arith)) (lt-ltb y x l)
    go (no m) (no k) =
        ap₂ (λ (b e : Bool). cond b Less (cond e Equal Greater)) (le-ltb x y (omega arith)) (eq-eqb x y (omega arith))
        ∙ way_same (ltb x y) (ltb y x) (le-ltb x y (omega arith)) (le-ltb y x (omega arith))

-- the list that is chosen
pub chosen_second : {A : Type 0} (w : Ordering) → w ≡ Less → (x y : A) → y ≡ choose (of_first w) x y
chosen_second w q x y = sym (ap (λ (v : Ordering). choose (of_first v) x y) q)

pub chosen_first : {A : Type 0} (w : Ordering) → w ≡ Equal → (x y : A) → x ≡ choose (of_first w) x y
chosen_first w q x y = sym (ap (λ (v : Ordering). choose (of_first v) x y) q)

pub chosen_rest : {A : Type 0} (w : Ordering) → w ≡ Greater → (x y : A) → x ≡ choose (of_first w) x y
chosen_rest w q x y = sym (ap (λ (v : Ordering). choose (of_first v) x y) q)

-- and back
pub before_way : (p q : Bool) → Less ≡ way_of p q → p ≡ true
before_way true q e = refl
before_way false true e = never (cc)
before_way false false e = never (cc)

pub after_way : (p q : Bool) → Greater ≡ way_of p q → p ≡ false
after_way true q e = never (cc)
after_way false q e = refl

pub same_way : (p q : Bool) → Equal ≡ way_of p q → (p ≡ false) × (q ≡ false)
same_way true q e = never (cc)
same_way false true e = never (cc)
same_way false false e = (refl, refl)

-- ---- whole rows
pub some_row : (n : ℕ) (a : List ℕ) → length a % n ≡ 0 → (length a ≡ 0 → ⊥) → n ≤ length a
some_row n a e h = go (leb n (length a)) refl
  where
    go : (b : Bool) → leb n (length a) ≡ b → n ≤ length a
    go true q = leb-true n (length a) q
    go false q = absurd (h (sym (mod-eq_of_lt (leb-false n (length a) q)) ∙ e))

pub front_length : (n : ℕ) (a : List ℕ) → length a % n ≡ 0 → (length a ≡ 0 → ⊥) → n ≡ length (take n a)
front_length n a e h = sym (length-take-le n a (some_row n a e h))

pub drop_whole : (n : ℕ) (a : List ℕ) → n ≤ length a → length a % n ≡ 0 → length (drop n a) % n ≡ 0
drop_whole n a h e = ap (λ (k : ℕ). k % n) (length-drop n a) ∙ sym (mod-eq-sub-mod h) ∙ e

-- ---- which list is next
module _ (n : ℕ) (order a b : List ℕ) where
  pub second_empty : length b ≡ 0 → from_first n order a b ≡ true
  unfolding from_first
  second_empty e = ap (λ (t : Bool). either t (both (not (eqb (length a) 0)) (not (earlier_by order (take n b) (take n a))))) (eq-eqb (length b) 0 e)

  pub first_empty : (length b ≡ 0 → ⊥) → length a ≡ 0 → from_first n order a b ≡ false
  unfolding from_first
  first_empty h e = ap₂ (λ (t u : Bool). either t (both (not u) (not (earlier_by order (take n b) (take n a))))) (ne_eqb (length b) 0 h) (eq-eqb (length a) 0 e)

  pub by_rows : (length b ≡ 0 → ⊥) → (length a ≡ 0 → ⊥) → from_first n order a b ≡ not (earlier_by order (take n b) (take n a))
  unfolding from_first
  by_rows h k = ap₂ (λ (t u : Bool). either t (both (not u) (not (earlier_by order (take n b) (take n a))))) (ne_eqb (length b) 0 h) (ne_eqb (length a) 0 k)

  pub next_first : from_first n order a b ≡ true → take n a ≡ next_row n order a b
  unfolding next_row
  next_first e = sym (ap (λ (t : Bool). take n (choose t a b)) e)

  pub next_second : from_first n order a b ≡ false → take n b ≡ next_row n order a b
  unfolding next_row
  next_second e = sym (ap (λ (t : Bool). take n (choose t a b)) e)

-- ---- what a row takes away
pub taken_none : (n : ℕ) (rest row : List ℕ) → length rest ≡ 0 → 0 ≡ taken n rest row
unfolding taken
taken_none n rest row e = sym (ap (λ (t : Bool). elim (both (not t) (same (take n rest) row)) [ true ↦ n | false ↦ 0 ]) (eq-eqb (length rest) 0 e))

pub taken_by : (n : ℕ) (rest row : List ℕ) → (length rest ≡ 0 → ⊥) → taken n rest row ≡ elim (same (take n rest) row) [ true ↦ n | false ↦ 0 ]
unfolding taken
taken_by n rest row h = ap (λ (t : Bool). elim (both (not t) (same (take n rest) row)) [ true ↦ n | false ↦ 0 ]) (ne_eqb (length rest) 0 h)

pub taken_yes : (n : ℕ) (rest row : List ℕ) → (length rest ≡ 0 → ⊥) → take n rest ≡ row → n ≡ taken n rest row
taken_yes n rest row h e =
    let q : same (take n rest) row ≡ true = of_T (same (take n rest) row) (subst (λ (r : List ℕ). T (same (take n rest) r)) e (same_refl (take n rest))) in
    sym (taken_by n rest row h ∙ ap (λ (t : Bool). elim t [ true ↦ n | false ↦ 0 ]) q)

pub taken_no : (n : ℕ) (rest row : List ℕ) → (length rest ≡ 0 → ⊥) → (take n rest ≡ row → ⊥) → 0 ≡ taken n rest row
taken_no n rest row h e =
    sym (taken_by n rest row h ∙ ap (λ (t : Bool). elim t [ true ↦ n | false ↦ 0 ]) (not_of (same (take n rest) row) (λ t. e (same_eq (take n rest) row t))))

pub not_itself : (order x y : List ℕ) → earlier_by order x y ≡ true → x ≡ y → ⊥
not_itself order x y e q =
    let t : T (earlier_by order x x) = T_of (earlier_by order x x) (ap (earlier_by order x) q ∙ e) in
    earlier_asym (read order x) (read order x) t t

-- ---- the first row of a union
module _ (n : ℕ) (order : List ℕ) (p : Places n order) where
  u_left : (x : List ℕ) (xs : List (List ℕ)) → union order (x ∷ xs) [] ≡ x ∷ union order xs []
  unfolding union
  u_left x xs = refl

  u_right : (y : List ℕ) (ys : List (List ℕ)) → Wide n (y ∷ ys) → Sorted (Earlier order) (y ∷ ys) → union order [] (y ∷ ys) ≡ y ∷ union order [] ys
  u_right y ys w s = union_step n order p y [] (y ∷ ys) [] ys none w none (wide_tail w) tt tt (λ z m. absurd (Memᴰ-not_nil m)) s.0 there back
    where
      none : Wide n []
      none r m = absurd (Memᴰ-not_nil m)

      there : (z : List ℕ) → Memᴰ z [] ⊎ Memᴰ z (y ∷ ys) → (z ≡ y) ⊎ (Memᴰ z [] ⊎ Memᴰ z ys)
      there z (inl m) = absurd (Memᴰ-not_nil m)
      there z (inr (Memᴰ-head e)) = inl e
      there z (inr (Memᴰ-tail m)) = inr (inr m)

      back : (z : List ℕ) → (z ≡ y) ⊎ (Memᴰ z [] ⊎ Memᴰ z ys) → Memᴰ z [] ⊎ Memᴰ z (y ∷ ys)
      back z (inl e) = inr (Memᴰ-head e)
      back z (inr (inl m)) = inl m
      back z (inr (inr m)) = inr (Memᴰ-tail m)

  module _ (x y : List ℕ) (xs ys : List (List ℕ)) (v : Wide n (x ∷ xs)) (w : Wide n (y ∷ ys)) (s : Sorted (Earlier order) (x ∷ xs)) (t : Sorted (Earlier order) (y ∷ ys)) where
    after : (r q : List ℕ) (rows : List (List ℕ)) → T (earlier_by order r q) → ((z : List ℕ) → Memᴰ z rows → Earlier order q z) → (z : List ℕ) → Memᴰ z (q ∷ rows) → Earlier order r z
    after r q rows h k z (Memᴰ-head e) = subst (λ (u : List ℕ). Earlier order r u) (sym e) h
    after r q rows h k z (Memᴰ-tail m) = earlier_trans (read order r) (read order q) (read order z) h (k z m)

    u_first : T (earlier_by order x y) → union order (x ∷ xs) (y ∷ ys) ≡ x ∷ union order xs (y ∷ ys)
    u_first h = union_step n order p x (x ∷ xs) (y ∷ ys) xs (y ∷ ys) v w (wide_tail v) w s s.1 s.0 (after x y ys h t.0) there back
      where
        there : (z : List ℕ) → Memᴰ z (x ∷ xs) ⊎ Memᴰ z (y ∷ ys) → (z ≡ x) ⊎ (Memᴰ z xs ⊎ Memᴰ z (y ∷ ys))
        there z (inl (Memᴰ-head e)) = inl e
        there z (inl (Memᴰ-tail m)) = inr (inl m)
        there z (inr m) = inr (inr m)

        back : (z : List ℕ) → (z ≡ x) ⊎ (Memᴰ z xs ⊎ Memᴰ z (y ∷ ys)) → Memᴰ z (x ∷ xs) ⊎ Memᴰ z (y ∷ ys)
        back z (inl e) = inl (Memᴰ-head e)
        back z (inr (inl m)) = inl (Memᴰ-tail m)
        back z (inr (inr m)) = inr m

    u_second : T (earlier_by order y x) → union order (x ∷ xs) (y ∷ ys) ≡ y ∷ union order (x ∷ xs) ys
    u_second h = union_step n order p y (x ∷ xs) (y ∷ ys) (x ∷ xs) ys v w v (wide_tail w) s s (after y x xs h s.0) t.0 there back
      where
        there : (z : List ℕ) → Memᴰ z (x ∷ xs) ⊎ Memᴰ z (y ∷ ys) → (z ≡ y) ⊎ (Memᴰ z (x ∷ xs) ⊎ Memᴰ z ys)
        there z (inl m) = inr (inl m)
        there z (inr (Memᴰ-head e)) = inl e
        there z (inr (Memᴰ-tail m)) = inr (inr m)

        back : (z : List ℕ) → (z ≡ y) ⊎ (Memᴰ z (x ∷ xs) ⊎ Memᴰ z ys) → Memᴰ z (x ∷ xs) ⊎ Memᴰ z (y ∷ ys)
        back z (inl e) = inr (Memᴰ-head e)
        back z (inr (inl m)) = inl m
        back z (inr (inr m)) = inr (Memᴰ-tail m)

    u_both : x ≡ y → union order (x ∷ xs) (y ∷ ys) ≡ x ∷ union order xs ys
    u_both q = union_step n order p x (x ∷ xs) (y ∷ ys) xs ys v w (wide_tail v) (wide_tail w) s s.1 s.0 (λ z m. subst (λ (u : List ℕ). Earlier order u z) (sym q) (t.0 z m)) there back
      where
        there : (z : List ℕ) → Memᴰ z (x ∷ xs) ⊎ Memᴰ z (y ∷ ys) → (z ≡ x) ⊎ (Memᴰ z xs ⊎ Memᴰ z ys)
        there z (inl (Memᴰ-head e)) = inl e
        there z (inl (Memᴰ-tail m)) = inr (inl m)
        there z (inr (Memᴰ-head e)) = inl (e ∙ sym q)
        there z (inr (Memᴰ-tail m)) = inr (inr m)

        back : (z : List ℕ) → (z ≡ x) ⊎ (Memᴰ z xs ⊎ Memᴰ z ys) → Memᴰ z (x ∷ xs) ⊎ Memᴰ z (y ∷ ys)
        back z (inl e) = inl (Memᴰ-head e)
        back z (inr (inl m)) = inl (Memᴰ-tail m)
        back z (inr (inr m)) = inr (Memᴰ-tail m)

-- ---- a step in bytes
pub record Step (n : ℕ) (order a b row : List ℕ) (i j : ℕ) : Type 0 where
  pub width : length row ≡ n
  pub left : i ≤ length a
  pub right : j ≤ length b
  pub text : merged_by n order a b ≡ row ++ merged_by n order (drop i a) (drop j b)
  pub fewer : length (drop i a) + length (drop j b) < length a + length b
  pub sorts : Sorts n order (drop i a) (drop j b)

-- i bytes of a list are gone, and these rows are left
record Gone (n : ℕ) (a : List ℕ) (i : ℕ) (rows : List (List ℕ)) : Type 0 where
  fits : i ≤ length a
  rest : rows_in n (drop i a) ≡ rows
  whole : length (drop i a) % n ≡ 0

gone_row : (n : ℕ) (a : List ℕ) (i : ℕ) → n ≤ length a → length a % n ≡ 0 → i ≡ n → Gone n a i (rows_in n (drop n a))
gone_row n a i h e q = subst (λ (k : ℕ). Gone n a k (rows_in n (drop n a))) (sym q) (record { fits = h; rest = refl; whole = drop_whole n a h e })

gone_none : (n : ℕ) (a : List ℕ) (i : ℕ) → length a % n ≡ 0 → i ≡ 0 → Gone n a i (rows_in n a)
gone_none n a i e q = subst (λ (k : ℕ). Gone n a k (rows_in n a)) (sym q) (record { fits = omega arith; rest = refl; whole = e })

module _ (n : ℕ) (order a b : List ℕ) (d : Sorts n order a b) where
  made : (row : List ℕ) (i j : ℕ) (xs ys : List (List ℕ)) → length row ≡ n → Gone n a i xs → Gone n b j ys → 0 < i + j → union order (rows_in n a) (rows_in n b) ≡ row ∷ union order xs ys → Sorted
      (Earlier order) xs → Sorted (Earlier order) ys → Step n order a b row i j
  unfolding merged_by flat
  made row i j xs ys w g h l u s t =
      record {
        width = w;
        left = g.fits;
        right = h.fits;
        text = ap flat u ∙ ap₂ (λ (x y : List (List ℕ)). row ++ flat (union order x y)) (sym g.rest) (sym h.rest);
        fewer = omega (arith, length-drop i a, length-drop j b, g.fits, h.fits);
        sorts =
            record {
              rests = record { places = d.rests.places; some = d.rests.some; first = g.whole; second = h.whole };
              first = subst (λ (x : List (List ℕ)). T (ascends order x)) (sym g.rest) (ascends_of order xs s);
              second = subst (λ (x : List (List ℕ)). T (ascends order x)) (sym h.rest) (ascends_of order ys t);
            };
      }

  -- the code's step
  pub stepped : (row : List ℕ) (i j : ℕ) → row ≡ next_row n order a b → (length row ≡ 0 → ⊥) → i ≡ taken n a row → j ≡ taken n b row → Step n order a b row i j
  stepped row i j e full ei ej = cases (eqb (length b) 0) refl (eqb (length a) 0) refl
    where
      r : Rests n order a b
      r = d.rests

      xs : List (List ℕ)
      xs = rows_in n (drop n a)

      ys : List (List ℕ)
      ys = rows_in n (drop n b)

      some_a : (length a ≡ 0 → ⊥) → n ≤ length a
      some_a h = some_row n a r.first h

      some_b : (length b ≡ 0 → ⊥) → n ≤ length b
      some_b h = some_row n b r.second h

      rows_a : (length a ≡ 0 → ⊥) → rows_in n a ≡ take n a ∷ xs
      rows_a h = rows_cons n a r.some (some_a h)

      rows_b : (length b ≡ 0 → ⊥) → rows_in n b ≡ take n b ∷ ys
      rows_b h = rows_cons n b r.some (some_b h)

      sorted_a : (h : length a ≡ 0 → ⊥) → Sorted (Earlier order) (take n a ∷ xs)
      sorted_a h = subst (λ (l : List (List ℕ)). Sorted (Earlier order) l) (rows_a h) (sorted_of order (rows_in n a) d.first)

      sorted_b : (h : length b ≡ 0 → ⊥) → Sorted (Earlier order) (take n b ∷ ys)
      sorted_b h = subst (λ (l : List (List ℕ)). Sorted (Earlier order) l) (rows_b h) (sorted_of order (rows_in n b) d.second)

      wide_a : (h : length a ≡ 0 → ⊥) → Wide n (take n a ∷ xs)
      wide_a h = subst (λ (l : List (List ℕ)). Wide n l) (rows_a h) (rows_wide n a)

      wide_b : (h : length b ≡ 0 → ⊥) → Wide n (take n b ∷ ys)
      wide_b h = subst (λ (l : List (List ℕ)). Wide n l) (rows_b h) (rows_wide n b)

      none_a : length a ≡ 0 → rows_in n a ≡ []
      none_a h = rows_none n a r.some (omega (arith, r.some))

      none_b : length b ≡ 0 → rows_in n b ≡ []
      none_b h = rows_none n b r.some (omega (arith, r.some))

      first_is : from_first n order a b ≡ true → row ≡ take n a
      first_is q = e ∙ sym (next_first n order a b q)

      second_is : from_first n order a b ≡ false → row ≡ take n b
      second_is q = e ∙ sym (next_second n order a b q)

      -- the first list's row goes from the first, where it has one
      whole_a : (h : length a ≡ 0 → ⊥) → row ≡ take n a → i ≡ n
      whole_a h q = ei ∙ sym (taken_yes n a row h (sym q))

      whole_b : (h : length b ≡ 0 → ⊥) → row ≡ take n b → j ≡ n
      whole_b h q = ej ∙ sym (taken_yes n b row h (sym q))

      only_first : length b ≡ 0 → Step n order a b row i j
      only_first hb =
          let q : row ≡ take n a = first_is (second_empty n order a b hb) in
          let ha : length a ≡ 0 → ⊥ = λ z. full (ap length (q ∙ ap (take n) (length_none a z) ∙ take-nil n)) in
          let iz : i ≡ n = whole_a ha q in
          let jz : j ≡ 0 = ej ∙ sym (taken_none n b row hb) in
          made row i j xs (rows_in n b) (ap length q ∙ length-take-le n a (some_a ha)) (gone_row n a i (some_a ha) r.first iz) (gone_none n b j r.second jz) (omega (arith, iz, r.some))
          (ap₂ (union order) (rows_a ha) (none_b hb) ∙ u_left n order r.places (take n a) xs ∙ ap₂ (λ (x : List ℕ) (l : List (List ℕ)). x ∷ union order xs l) (sym q) (sym (none_b hb)))
          (sorted_a ha).1 (sorted_of order (rows_in n b) d.second)

      only_second : (length b ≡ 0 → ⊥) → length a ≡ 0 → Step n order a b row i j
      only_second hb ha =
          let q : row ≡ take n b = second_is (first_empty n order a b hb ha) in
          let iz : i ≡ 0 = ei ∙ sym (taken_none n a row ha) in
          let jz : j ≡ n = whole_b hb q in
          made row i j (rows_in n a) ys (ap length q ∙ length-take-le n b (some_b hb)) (gone_none n a i r.first iz) (gone_row n b j (some_b hb) r.second jz) (omega (arith, jz, r.some))
          (ap₂ (union order) (none_a ha) (rows_b hb) ∙ u_right n order r.places (take n b) ys (wide_b hb) (sorted_b hb) ∙ ap₂ (λ (x : List ℕ) (l : List (List ℕ)). x ∷ union order l ys) (sym q)
          (sym (none_a ha)))
          (sorted_of order (rows_in n a) d.first) (sorted_b hb).1

      by_order : (hb : length b ≡ 0 → ⊥) (ha : length a ≡ 0 → ⊥) (t : Bool) → earlier_by order (take n b) (take n a) ≡ t → (u : Bool) → earlier_by order (take n a) (take n b) ≡ u
          → Step n order a b row i j
      by_order hb ha true q u v =
          let k : row ≡ take n b = second_is (by_rows n order a b hb ha ∙ ap not q) in
          let iz : i ≡ 0 = ei ∙ sym (taken_no n a row ha (λ z. not_itself order (take n b) (take n a) q (sym k ∙ sym z))) in
          let jz : j ≡ n = whole_b hb k in
          made row i j (rows_in n a) ys (ap length k ∙ length-take-le n b (some_b hb)) (gone_none n a i r.first iz) (gone_row n b j (some_b hb) r.second jz) (omega (arith, jz, r.some))
          (ap₂ (union order) (rows_a ha) (rows_b hb) ∙ u_second n order r.places (take n a) (take n b) xs ys (wide_a ha) (wide_b hb) (sorted_a ha) (sorted_b hb) (T_of _ q) ∙ ap₂
          (λ (x : List ℕ) (l : List (List ℕ)). x ∷ union order l ys) (sym k) (sym (rows_a ha)))
          (sorted_of order (rows_in n a) d.first) (sorted_b hb).1
      by_order hb ha false q true v =
          let k : row ≡ take n a = first_is (by_rows n order a b hb ha ∙ ap not q) in
          let iz : i ≡ n = whole_a ha k in
          let jz : j ≡ 0 = ej ∙ sym (taken_no n b row hb (λ z. not_itself order (take n a) (take n b) v (sym k ∙ sym z))) in
          made row i j xs (rows_in n b) (ap length k ∙ length-take-le n a (some_a ha)) (gone_row n a i (some_a ha) r.first iz) (gone_none n b j r.second jz) (omega (arith, iz, r.some))
          (ap₂ (union order) (rows_a ha) (rows_b hb) ∙ u_first n order r.places (take n a) (take n b) xs ys (wide_a ha) (wide_b hb) (sorted_a ha) (sorted_b hb) (T_of _ v) ∙ ap₂
          (λ (x : List ℕ) (l : List (List ℕ)). x ∷ union order xs l) (sym k) (sym (rows_b hb)))
          (sorted_a ha).1 (sorted_of order (rows_in n b) d.second)
      by_order hb ha false q false v =
          let k : row ≡ take n a = first_is (by_rows n order a b hb ha ∙ ap not q) in
          let la : length (take n a) ≡ n = length-take-le n a (some_a ha) in
          let lb : length (take n b) ≡ n = length-take-le n b (some_b hb) in
          let z : take n a ≡ take n b = rows_equal n order r.places (take n a) (take n b) la lb v q in
          let iz : i ≡ n = whole_a ha k in
          let jz : j ≡ n = whole_b hb (k ∙ z) in
          made row i j xs ys (ap length k ∙ la) (gone_row n a i (some_a ha) r.first iz) (gone_row n b j (some_b hb) r.second jz) (omega (arith, iz, r.some))
          (ap₂ (union order) (rows_a ha) (rows_b hb) ∙ u_both n order r.places (take n a) (take n b) xs ys (wide_a ha) (wide_b hb) (sorted_a ha) (sorted_b hb) z ∙ ap
          (λ (x : List ℕ). x ∷ union order xs ys) (sym k))
          (sorted_a ha).1 (sorted_b hb).1

      cases : (t : Bool) → eqb (length b) 0 ≡ t → (u : Bool) → eqb (length a) 0 ≡ u → Step n order a b row i j
      cases true q u v = only_first (eqb-true (length b) 0 q)
      cases false q true v = only_second (eqb-false (length b) 0 q) (eqb-true (length a) 0 v)
      cases false q false v = by_order (eqb-false (length b) 0 q) (eqb-false (length a) 0 v) (earlier_by order (take n b) (take n a)) refl (earlier_by order (take n a) (take n b)) refl

  -- at the end nothing is left
  pub ended : (row : List ℕ) → row ≡ next_row n order a b → length row ≡ 0 → merged_by n order a b ≡ []
  unfolding merged_by flat union
  ended row e z = cases (eqb (length b) 0) refl (eqb (length a) 0) refl
    where
      r : Rests n order a b
      r = d.rests

      cases : (t : Bool) → eqb (length b) 0 ≡ t → (u : Bool) → eqb (length a) 0 ≡ u → flat (union order (rows_in n a) (rows_in n b)) ≡ []
      cases true q true v =
          ap₂ (λ (x y : List (List ℕ)). flat (union order x y)) (rows_none n a r.some (omega (arith, r.some, eqb-true (length a) 0 v)))
          (rows_none n b r.some (omega (arith, r.some, eqb-true (length b) 0 q)))
      cases true q false v =
          absurd (omega (arith, r.some, z, ap length (e ∙ sym (next_first n order a b (second_empty n order a b (eqb-true (length b) 0 q)))), front_length n a r.first (eqb-false (length a) 0 v)))
      cases false q u v = absurd (fronts (from_first n order a b) refl (eqb-false (length b) 0 q))
        where
          fronts : (t : Bool) → from_first n order a b ≡ t → (length b ≡ 0 → ⊥) → ⊥
          fronts true f h = lead (eqb (length a) 0) refl
            where
              lead : (w : Bool) → eqb (length a) 0 ≡ w → ⊥
              lead true g = of_not (from_first n order a b) (first_empty n order a b h (eqb-true (length a) 0 g)) (T_of (from_first n order a b) f)
              lead false g = omega (arith, r.some, z, ap length (e ∙ sym (next_first n order a b f)), front_length n a r.first (eqb-false (length a) 0 g))
          fronts false f h = omega (arith, r.some, z, ap length (e ∙ sym (next_second n order a b f)), front_length n b r.second h)
