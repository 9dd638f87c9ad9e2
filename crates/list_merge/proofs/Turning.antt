-- What each function of the crate shows at its branches and turns. Assumes nothing.
use Rattle.model.specs.Kit.{◌≡◌, refl, sym, ap, ap₂, ◌∙◌, subst, Bool, true, false, not, List, ◌∷◌, ◌++◌, append_assoc, append-nil, ℕ, ◌+◌, ◌-◌, ◌%◌, ◌≤◌, ◌<◌, arith, leb, eqb, length, take, drop}
use Rattle.model.specs.Kit.{length-drop, length-append, length-take-le, take_all, leb-true, leb-false, eq-eqb, ne_eqb, eqb-true, eqb-false}
use Rattle.model.specs.{Room.rows_in, Lists.choose}
use lib.Seq.{take-nil}
use Rattle.model.proofs.{Room.rows_none, Room.rows_cons, Lists.length_none}
use Rattle.list_merge.specs.Merge.{ascends, merged_by, from_first, next_row}
use Rattle.list_merge.specs.Inner.Inner.{way_of, Rests, Sorts, stands, of_first, Fronts, taken_first, taken_second, taken}
use Rattle.std.specs.declared.cmp.Ordering.{Ordering}
use Rattle.std.specs.declared.cmp.Ordering.TheVariants.{Less, Equal, Greater}
use Rattle.order.specs.Reordered.{earlier_by}
use Rattle.list_merge.proofs.Reading.{rows_equal, ascends_yes, ascends_no, ascends_none, ascends_one}
use Rattle.list_merge.proofs.Stepping.{before_way, after_way, same_way, second_empty, first_empty, by_rows, next_first, next_second, some_row, drop_whole, taken_none, taken_yes, taken_no}
use Rattle.list_merge.proofs.Stepping.{not_itself, Step, stepped, ended}

-- ---- stand
module _ (n : ℕ) (order a b : List ℕ) where
  pub stand_after : length b ≡ 0 → Greater ≡ stands n order a b
  unfolding stands
  stand_after e = sym (ap (λ (t : Bool). elim t [
    | true ↦ Greater
    | false ↦ elim (eqb (length a) 0)
        [ true ↦ Less | false ↦ way_of (earlier_by order (take n b) (take n a)) (earlier_by order (take n a) (take n b)) ]
  ]) (eq-eqb (length b) 0 e))

  pub stand_before : (length b ≡ 0 → ⊥) → length a ≡ 0 → Less ≡ stands n order a b
  unfolding stands
  stand_before h e = sym (ap₂ (λ (t u : Bool). elim t [
    | true ↦ Greater
    | false ↦ elim u [
      | true ↦ Less
      | false ↦ way_of (earlier_by order (take n b) (take n a))
          (earlier_by order (take n a) (take n b))
    ]
  ]) (ne_eqb (length b) 0 h) (eq-eqb (length a) 0 e))

  pub stand_rows : (length b ≡ 0 → ⊥) → (length a ≡ 0 → ⊥) → way_of (earlier_by order (take n b) (take n a)) (earlier_by order (take n a) (take n b)) ≡ stands n order a b
  unfolding stands
  stand_rows h k = sym (ap₂ (λ (t u : Bool). elim t [
    | true ↦ Greater
    | false ↦ elim u [
      | true ↦ Less
      | false ↦ way_of (earlier_by order (take n b) (take n a))
          (earlier_by order (take n a) (take n b))
    ]
  ]) (ne_eqb (length b) 0 h) (ne_eqb (length a) 0 k))

-- what is known by how the second's next row stands to the first's
module _ (n : ℕ) (order a b : List ℕ) (d : Rests n order a b) (w : Ordering) (e : w ≡ stands n order a b) where
  split : (P : Ordering → Type 0) → (length b ≡ 0 → P Greater) → ((length b ≡ 0 → ⊥) → length a ≡ 0 → P Less) →
      ((length b ≡ 0 → ⊥) → (length a ≡ 0 → ⊥) → earlier_by order (take n b) (take n a) ≡ true → P Less) →
      ((length b ≡ 0 → ⊥) → (length a ≡ 0 → ⊥) → earlier_by order (take n b) (take n a) ≡ false → earlier_by order (take n a) (take n b) ≡ true → P Greater) →
      ((length b ≡ 0 → ⊥) → (length a ≡ 0 → ⊥) → earlier_by order (take n b) (take n a) ≡ false → earlier_by order (take n a) (take n b) ≡ false → P Equal) → P w
  unfolding stands
  split P none only later sooner equal =
      subst P (sym e) (go (eqb (length b) 0) refl (eqb (length a) 0) refl (earlier_by order (take n b) (take n a)) refl (earlier_by order (take n a) (take n b)) refl)
    where
      go : (t : Bool) → eqb (length b) 0 ≡ t → (u : Bool) → eqb (length a) 0 ≡ u → (p : Bool) → earlier_by order (take n b) (take n a) ≡ p → (q : Bool) → earlier_by order (take n a) (take n b) ≡ q
          → P (elim t [ true ↦ Greater | false ↦ elim u [ true ↦ Less | false ↦ way_of p q ] ])
      go true f u g p i q j = none (eqb-true (length b) 0 f)
      go false f true g p i q j = only (eqb-false (length b) 0 f) (eqb-true (length a) 0 g)
      go false f false g true i q j = later (eqb-false (length b) 0 f) (eqb-false (length a) 0 g) i
      go false f false g false i true j = sooner (eqb-false (length b) 0 f) (eqb-false (length a) 0 g) i j
      go false f false g false i false j = equal (eqb-false (length b) 0 f) (eqb-false (length a) 0 g) i j

  chosen : of_first w ≡ from_first n order a b
  chosen =
      split (λ (v : Ordering). of_first v ≡ from_first n order a b) (λ hb. sym (second_empty n order a b hb)) (λ hb ha. sym (first_empty n order a b hb ha))
      (λ hb ha q. sym (by_rows n order a b hb ha ∙ ap not q))
      (λ hb ha q z. sym (by_rows n order a b hb ha ∙ ap not q)) (λ hb ha q z. sym (by_rows n order a b hb ha ∙ ap not q))

  pub next_is : take n (choose (of_first w) a b) ≡ next_row n order a b
  unfolding next_row
  next_is = ap (λ (t : Bool). take n (choose t a b)) chosen

  pub which_is : {A : Type 0} (x y : A) → choose (of_first w) x y ≡ choose (from_first n order a b) x y
  which_is x y = ap (λ (t : Bool). choose t x y) chosen

  pub fronts : Fronts n w a b
  fronts =
      split (λ (v : Ordering). Fronts n v a b) (λ hb h. some_row n a d.first h) (λ hb ha. some_row n b d.second hb) (λ hb ha q. some_row n b d.second hb) (λ hb ha q z h. some_row n a d.first h)
      (λ hb ha q z. (some_row n a d.first ha, some_row n b d.second hb))

  module _ (row : List ℕ) (k : row ≡ next_row n order a b) (full : length row ≡ 0 → ⊥) where
    is_first : from_first n order a b ≡ true → take n a ≡ row
    is_first q = next_first n order a b q ∙ sym k

    is_second : from_first n order a b ≡ false → take n b ≡ row
    is_second q = next_second n order a b q ∙ sym k

    some_first : take n a ≡ row → length a ≡ 0 → ⊥
    some_first q z = full (sym (ap length q) ∙ ap (λ (l : List ℕ). length (take n l)) (length_none a z) ∙ ap length (take-nil n))

    pub first_taken : taken_first n w ≡ taken n a row
    first_taken =
        split (λ (v : Ordering). taken_first n v ≡ taken n a row) (λ hb. let q = is_first (second_empty n order a b hb) in taken_yes n a row (some_first q) q) (λ hb ha. taken_none n a row ha)
        (λ hb ha q. taken_no n a row ha (λ z. not_itself order (take n b) (take n a) q (is_second (by_rows n order a b hb ha ∙ ap not q) ∙ sym z)))
        (λ hb ha q v. taken_yes n a row ha (is_first (by_rows n order a b hb ha ∙ ap not q)))
        (λ hb ha q v. taken_yes n a row ha (is_first (by_rows n order a b hb ha ∙ ap not q)))

    pub second_taken : taken_second n w ≡ taken n b row
    second_taken =
        split (λ (v : Ordering). taken_second n v ≡ taken n b row) (λ hb. taken_none n b row hb) (λ hb ha. taken_yes n b row hb (is_second (first_empty n order a b hb ha)))
        (λ hb ha q. taken_yes n b row hb (is_second (by_rows n order a b hb ha ∙ ap not q)))
        (λ hb ha q v. taken_no n b row hb (λ z. not_itself order (take n a) (take n b) v (is_first (by_rows n order a b hb ha ∙ ap not q) ∙ sym z)))
        (λ hb ha q v.
        taken_yes n b row hb
        (sym (rows_equal n order d.places (take n a) (take n b) (length-take-le n a (some_row n a d.first ha)) (length-take-le n b (some_row n b d.second hb)) v q) ∙ is_first
        (by_rows n order a b hb ha ∙ ap not q)))

-- ---- parts
pub part_is : (a : List ℕ) (i : ℕ) → take (length a - i) (drop i a) ≡ drop i a
part_is a i = take_all (length a - i) (drop i a) (omega (arith, length-drop i a))

-- ---- ascend
pub second_row : (n : ℕ) (a : List ℕ) → length a % n ≡ 0 → n < length a → n ≤ length (drop n a)
second_row n a e h = some_row n (drop n a) (drop_whole n a (omega arith) e) (λ z. omega (arith, length-drop n a, z))

module _ (n : ℕ) (order a after : List ℕ) (some : 1 ≤ n) (e : length a % n ≡ 0) (h : n < length a) (q : after ≡ drop n a) where
  two : rows_in n a ≡ take n a ∷ take n after ∷ rows_in n (drop n after)
  two =
      rows_cons n a some (omega arith)
      ∙ ap (λ (l : List ℕ). take n a ∷ rows_in n l) (sym q)
      ∙ ap (λ (l : List (List ℕ)). take n a ∷ l) (rows_cons n after some (subst (λ (l : List ℕ). n ≤ length l) (sym q) (second_row n a e h)))

  one : rows_in n after ≡ take n after ∷ rows_in n (drop n after)
  one = rows_cons n after some (subst (λ (l : List ℕ). n ≤ length l) (sym q) (second_row n a e h))

  pub front_a : n ≡ length (take n a)
  front_a = sym (length-take-le n a (omega arith))

  pub front_after : n ≡ length (take n after)
  front_after = sym (length-take-le n after (subst (λ (l : List ℕ). n ≤ length l) (sym q) (second_row n a e h)))

  pub whole_after : length after % n ≡ 0
  whole_after = subst (λ (l : List ℕ). length l % n ≡ 0) (sym q) (drop_whole n a (omega arith) e)

  pub shorter : length after < length a
  shorter = omega (arith, ap length q, length-drop n a)

  module _ (w : Ordering) (f : w ≡ way_of (earlier_by order (take n a) (take n after)) (earlier_by order (take n after) (take n a))) where
    pub goes_on_lem : w ≡ Less → ascends order (rows_in n a) ≡ ascends order (rows_in n after)
    goes_on_lem z =
        ap (ascends order) two
        ∙ ascends_yes order (take n a) (take n after) (rows_in n (drop n after)) (before_way (earlier_by order (take n a) (take n after)) (earlier_by order (take n after) (take n a)) (sym z ∙ f))
        ∙ ap (ascends order) (sym one)

    pub equal_rows : w ≡ Equal → ascends order (rows_in n a) ≡ false
    equal_rows z = ap (ascends order) two ∙ ascends_no order (take n a) (take n after) (rows_in n (drop n after))
        (same_way (earlier_by order (take n a) (take n after)) (earlier_by order (take n after) (take n a)) (sym z ∙ f)).0

    pub falls : w ≡ Greater → ascends order (rows_in n a) ≡ false
    falls z = ap (ascends order) two ∙ ascends_no order (take n a) (take n after) (rows_in n (drop n after))
        (after_way (earlier_by order (take n a) (take n after)) (earlier_by order (take n after) (take n a)) (sym z ∙ f))

-- at most one row
pub last_row : (n : ℕ) (order a : List ℕ) → 1 ≤ n → length a % n ≡ 0 → length a ≤ n → ascends order (rows_in n a) ≡ true
last_row n order a some e h = go (leb n (length a)) refl
  where
    go : (b : Bool) → leb n (length a) ≡ b → ascends order (rows_in n a) ≡ true
    go true q =
        let l : n ≤ length a = leb-true n (length a) q in
        ap (ascends order) (rows_cons n a some l ∙ ap (λ (r : List (List ℕ)). take n a ∷ r) (rows_none n (drop n a) some (omega (arith, length-drop n a)))) ∙ ascends_one order (take n a)
    go false q = ap (ascends order) (rows_none n a some (leb-false n (length a) q)) ∙ ascends_none order

-- ---- fits and write
module _ (n : ℕ) (order a b : List ℕ) (d : Sorts n order a b) (row : List ℕ) (e : row ≡ next_row n order a b) (full : length row ≡ 0 → ⊥) where
  step : Step n order a b row (taken n a row) (taken n b row)
  step = stepped n order a b d row (taken n a row) (taken n b row) e full refl refl

  pub row_width : length row ≡ n
  row_width = step.width

  pub row_fits : length (merged_by n order a b) ≡ n + length (merged_by n order (drop (taken n a row) a) (drop (taken n b row) b))
  row_fits = ap length step.text ∙ length-append row (merged_by n order (drop (taken n a row) a) (drop (taken n b row) b)) ∙ ap
      (λ (k : ℕ). k + length (merged_by n order (drop (taken n a row) a) (drop (taken n b row) b))) step.width

  module _ (i j : ℕ) (ei : i ≡ taken n a row) (ej : j ≡ taken n b row) where
    turn : Step n order a b row i j
    turn = stepped n order a b d row i j e full ei ej

    pub left : i ≤ length a
    left = turn.left

    pub right : j ≤ length b
    right = turn.right

    module _ (a' b' : List ℕ) (ea : a' ≡ drop i a) (eb : b' ≡ drop j b) where
      pub sorts : Sorts n order a' b'
      sorts = subst (λ (x : List ℕ). Sorts n order x b') (sym ea) (subst (λ (y : List ℕ). Sorts n order (drop i a) y) (sym eb) turn.sorts)

      pub text : merged_by n order a b ≡ row ++ merged_by n order a' b'
      text = turn.text ∙ sym (ap₂ (λ (x y : List ℕ). row ++ merged_by n order x y) ea eb)

      pub fewer : length a' + length b' < length a + length b
      fewer = omega (arith, turn.fewer, ap length ea, ap length eb)

      -- the text so far, the row and what is left
      pub text_is : (t : List ℕ) → (t ++ row) ++ merged_by n order a' b' ≡ t ++ merged_by n order a b
      text_is t = append_assoc t row (merged_by n order a' b') ∙ sym (ap (λ (x : List ℕ). t ++ x) text)

-- a row fits where the whole does
pub room_for : (n : ℕ) (order a b : List ℕ) → Sorts n order a b → (row : List ℕ) → row ≡ next_row n order a b → (length row ≡ 0 → ⊥) → (t all : List ℕ) (at size : ℕ) → at ≡ length t
    → t ++ merged_by n order a b ≡ all → length all ≤ size → at + length row ≤ size
room_for n order a b d row e full t all at size h q l =
    omega (arith, ap length q, length-append t (merged_by n order a b), row_fits n order a b d row e full, row_width n order a b d row e full)

pub at_end : (n : ℕ) (order a b : List ℕ) → Sorts n order a b → (row : List ℕ) → row ≡ next_row n order a b → length row ≡ 0 → (t all : List ℕ) → t ++ merged_by n order a b ≡ all → t ≡ all
at_end n order a b d row e z t all q = sym (append-nil t) ∙ sym (ap (λ (x : List ℕ). t ++ x) (ended n order a b d row e z)) ∙ q
