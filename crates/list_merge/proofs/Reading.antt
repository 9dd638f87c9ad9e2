-- The reading order of rows, in any order of their places. Assumes nothing.
use Rattle.model.specs.Kit.{◌≡◌, refl, sym, ap, ap₂, ◌∙◌, subst, Bool, true, false, ⊎_elim, List, [], ◌∷◌, map, Memᴰ, Memᴰ-head, Memᴰ-tail, Memᴰ-not_nil, ℕ, suc, ◌+◌, ◌≤◌, ◌<◌}
use Rattle.model.specs.Kit.{add-one, arith, T, eqb, ltb, length, drop, get_or, ltb-true, ltb-false, eq-eqb}
use Rattle.model.specs.Lists.{at, below, earlier, rows_ascend}
use lib.ListN.{drop_of_length-le}
use lib.Seq.{drop-cons}
use Rattle.model.proofs.Lists.{T_of, of_T, not_of, earlier_lt, earlier_e, earlier_trans, at_map, at_mem, at_ext, at_below, length_below, Sorted}
use Rattle.list_merge.specs.{Merge.ascends, Inner.Inner.Places, Inner.Inner.ByPlace, Inner.Inner.Kind}
use Rattle.order.specs.Reordered.{read, earlier_by}
use Rattle.order.proofs.LeadersBy.{read_below}

-- ---- rows as they are
pub earlier_gt : (x y : ℕ) (l m : List ℕ) → y < x → earlier (x ∷ l) (y ∷ m) ≡ false
earlier_gt x y l m h = not_of (earlier (x ∷ l) (y ∷ m)) (λ t. ⊎_elim {C = ⊥} (λ k. omega arith) (λ k. omega (arith, k.0)) (earlier_e x y l m t))

pub earlier_same : (x y : ℕ) (l m : List ℕ) → x ≡ y → earlier (x ∷ l) (y ∷ m) ≡ earlier l m
unfolding earlier
earlier_same x y l m e = go (eqb x y) (eq-eqb x y e)
  where
    go : (b : Bool) → b ≡ true → elim b [ true ↦ earlier l m | false ↦ ltb x y ] ≡ earlier l m
    go true q = refl
    go false q = absurd (subst T (sym q) tt)

pub earlier_total : (l m : List ℕ) → length l ≡ length m → earlier l m ≡ false → earlier m l ≡ false → l ≡ m
unfolding earlier
earlier_total [] [] e p q = refl
earlier_total [] (y ∷ m) e p q = absurd (omega arith)
earlier_total (x ∷ l) [] e p q = absurd (omega arith)
earlier_total (x ∷ l) (y ∷ m) e p q = go (earlier_total l m (omega arith)) (ltb x y) refl (ltb y x) refl
  where
    go : (earlier l m ≡ false → earlier m l ≡ false → l ≡ m) → (b : Bool) → ltb x y ≡ b → (c : Bool) → ltb y x ≡ c → x ∷ l ≡ y ∷ m
    go ih true b c d = absurd (subst T p (earlier_lt x y l m (ltb-true x y b)))
    go ih false b true d = absurd (subst T q (earlier_lt y x m l (ltb-true y x d)))
    go ih false b false d =
        let h : x ≡ y = omega (arith, ltb-false x y b, ltb-false y x d) in
        ap₂ (λ (z : ℕ) (r : List ℕ). z ∷ r) h (ih (sym (earlier_same x y l m h) ∙ p) (sym (earlier_same y x m l (sym h)) ∙ q))

-- ---- rows in an order
length_read : (order a : List ℕ) → length (read order a) ≡ length order
unfolding read
length_read [] a = refl
length_read (x ∷ order) a = ap suc (length_read order a)

pub read_inj : (n : ℕ) (order : List ℕ) → Places n order → (a b : List ℕ) → length a ≡ n → length b ≡ n → read order a ≡ read order b → a ≡ b
unfolding read
read_inj n order p a b ea eb e = at_ext a b (ea ∙ sym eb) (λ x h. each x (omega arith))
  where
    each : (x : ℕ) → x < n → at a x ≡ at b x
    each x h =
        let q = at_mem order x (p.each x h) in
        ap (at a) (sym q.2)
        ∙ sym (at_map (at a) order q.0 q.1)
        ∙ ap (λ (l : List ℕ). at l q.0) e
        ∙ at_map (at b) order q.0 q.1
        ∙ ap (at b) q.2

-- rows of n values that do not read earlier than each other are equal
pub rows_equal : (n : ℕ) (order : List ℕ) → Places n order → (a b : List ℕ) → length a ≡ n → length b ≡ n → earlier_by order a b ≡ false → earlier_by order b a ≡ false → a ≡ b
rows_equal n order p a b ea eb s t =
    read_inj n order p a b ea eb (earlier_total (read order a) (read order b) (length_read order a ∙ sym (length_read order b)) s t)

-- ---- by place
pub plain_way : (n : ℕ) (order : List ℕ) → ByPlace n order → (a b : List ℕ) → n ≡ length a → n ≡ length b → earlier a b ≡ earlier_by order a b
plain_way n order p a b ea eb = sym (ap (λ (o : List ℕ). earlier_by o a b) p.order_is ∙ ap₂ earlier (read_below n a (sym ea)) (read_below n b (sym eb)))

pub in_place : (n : ℕ) (order : List ℕ) → 8 ≤ n → n ≤ 12 → length order ≡ n → ((k : ℕ) → k < length order → get_or order k 0 ≡ k) → Kind n order true
unfolding at
in_place n order some most e h =
    record {
      most = most;
      words = λ q.
          record {
            some = some;
            order_is = at_ext order (below n) (e ∙ sym (ap length (map_id (below n)) ∙ length_below (λ (x : ℕ). x) n))
                (λ i l. h i l ∙ sym (ap (λ (o : List ℕ). at o i) (map_id (below n)) ∙ at_below (λ (x : ℕ). x) n i (omega arith)));
          };
    }
  where
    map_id : (l : List ℕ) → l ≡ map (λ (x : ℕ). x) l
    map_id [] = refl
    map_id (x ∷ l) = ap (λ (r : List ℕ). x ∷ r) (map_id l)

pub not_plain : (n : ℕ) (order : List ℕ) → n ≤ 12 → Kind n order false
not_plain n order most = record { most = most; words = λ q. absurd (subst T (sym q) tt) }

-- ---- two rows compared from a place of the order on
abbrev pub onwards : List ℕ → List ℕ → List ℕ → ℕ → Bool
onwards order a b k = earlier (read (drop k order) a) (read (drop k order) b)

pub come_end : (order a b : List ℕ) (i : ℕ) → length order ≤ i → onwards order a b i ≡ false
unfolding read earlier
come_end order a b i h = ap (λ (l : List ℕ). earlier (read l a) (read l b)) (drop_of_length-le order {i = i} h)

module _ (order a b : List ℕ) (i : ℕ) where
  read_from : (r : List ℕ) → i < length order → read (drop i order) r ≡ get_or r (get_or order i 0) 0 ∷ read (drop (i + 1) order) r
  unfolding read at
  read_from r h = ap (map (λ x. get_or r x 0)) (drop-cons order i 0 h) ∙ ap (λ (k : ℕ). get_or r (get_or order i 0) 0 ∷ map (λ x. get_or r x 0) (drop k order)) (sym (add-one i))

  here : i < length order → onwards order a b i ≡ earlier (get_or a (get_or order i 0) 0 ∷ read (drop (i + 1) order) a) (get_or b (get_or order i 0) 0 ∷ read (drop (i + 1) order) b)
  here h = ap₂ earlier (read_from a h) (read_from b h)

  pub come_lt : i < length order → get_or a (get_or order i 0) 0 < get_or b (get_or order i 0) 0 → onwards order a b i ≡ true
  come_lt h l = here h ∙ of_T _ (earlier_lt (get_or a (get_or order i 0) 0) (get_or b (get_or order i 0) 0) (read (drop (i + 1) order) a) (read (drop (i + 1) order) b) l)

  pub come_gt : i < length order → get_or b (get_or order i 0) 0 < get_or a (get_or order i 0) 0 → onwards order a b i ≡ false
  come_gt h l = here h ∙ earlier_gt (get_or a (get_or order i 0) 0) (get_or b (get_or order i 0) 0) (read (drop (i + 1) order) a) (read (drop (i + 1) order) b) l

  pub come_eq : i < length order → get_or a (get_or order i 0) 0 ≡ get_or b (get_or order i 0) 0 → onwards order a b i ≡ onwards order a b (i + 1)
  come_eq h e = here h ∙ earlier_same (get_or a (get_or order i 0) 0) (get_or b (get_or order i 0) 0) (read (drop (i + 1) order) a) (read (drop (i + 1) order) b) e

  ended : length order ≤ i + 1 → onwards order a b (i + 1) ≡ false
  ended h = come_end order a b (i + 1) h

  -- where the rows differ at the place, or it is the last, it decides
  pub come_way : i < length order → (get_or a (get_or order i 0) 0 ≡ get_or b (get_or order i 0) 0 → length order ≤ i + 1) →
      onwards order a b i ≡ ltb (get_or a (get_or order i 0) 0) (get_or b (get_or order i 0) 0)
  come_way h last = cases (ltb x y) refl (ltb y x) refl
    where
      x : ℕ
      x = get_or a (get_or order i 0) 0

      y : ℕ
      y = get_or b (get_or order i 0) 0

      cases : (p : Bool) → ltb x y ≡ p → (q : Bool) → ltb y x ≡ q → onwards order a b i ≡ p
      cases true e q f = come_lt h (ltb-true x y e)
      cases false e true f = come_gt h (ltb-true y x f)
      cases false e false f = let z : x ≡ y = omega (arith, ltb-false x y e, ltb-false y x f) in come_eq h z ∙ ended (last z)

-- ---- lists of rows
abbrev pub Earlier : List ℕ → List ℕ → List ℕ → Type 0
Earlier order x y = T (earlier_by order x y)

pub ascends_cons : (order x y : List ℕ) (rows : List (List ℕ)) → ascends order (x ∷ y ∷ rows) ≡ elim (earlier_by order x y) [ true ↦ ascends order (y ∷ rows) | false ↦ false ]
unfolding ascends rows_ascend
ascends_cons order x y rows = refl

pub ascends_yes : (order x y : List ℕ) (rows : List (List ℕ)) → earlier_by order x y ≡ true → ascends order (x ∷ y ∷ rows) ≡ ascends order (y ∷ rows)
ascends_yes order x y rows e = ascends_cons order x y rows ∙ ap (λ (t : Bool). elim t [ true ↦ ascends order (y ∷ rows) | false ↦ false ]) e

pub ascends_no : (order x y : List ℕ) (rows : List (List ℕ)) → earlier_by order x y ≡ false → ascends order (x ∷ y ∷ rows) ≡ false
ascends_no order x y rows e = ascends_cons order x y rows ∙ ap (λ (t : Bool). elim t [ true ↦ ascends order (y ∷ rows) | false ↦ false ]) e

pub ascends_none : (order : List ℕ) → ascends order [] ≡ true
unfolding ascends rows_ascend
ascends_none order = refl

pub ascends_one : (order x : List ℕ) → ascends order (x ∷ []) ≡ true
unfolding ascends rows_ascend
ascends_one order x = refl

pub sorted_of : (order : List ℕ) (rows : List (List ℕ)) → T (ascends order rows) → Sorted (Earlier order) rows
sorted_of order [] t = tt
sorted_of order (x ∷ []) t = (λ y m. absurd (Memᴰ-not_nil m), tt)
sorted_of order (x ∷ y ∷ rows) t = go (sorted_of order (y ∷ rows)) (earlier_by order x y) refl (subst T (ascends_cons order x y rows) t)
  where
    first : T (earlier_by order x y) → ((z : List ℕ) → Memᴰ z rows → Earlier order y z) → (z : List ℕ) → Memᴰ z (y ∷ rows) → Earlier order x z
    first h k z (Memᴰ-head q) = subst (λ (w : List ℕ). Earlier order x w) (sym q) h
    first h k z (Memᴰ-tail m) = earlier_trans (read order x) (read order y) (read order z) h (k z m)

    go : (T (ascends order (y ∷ rows)) → Sorted (Earlier order) (y ∷ rows)) → (b : Bool) → earlier_by order x y ≡ b → T (elim b [ true ↦ ascends order (y ∷ rows) | false ↦ false ]) → Sorted
        (Earlier order) (x ∷ y ∷ rows)
    go ih true e t = let s = ih t in (first (T_of (earlier_by order x y) e) s.0, s)
    go ih false e t = absurd t

pub ascends_of : (order : List ℕ) (rows : List (List ℕ)) → Sorted (Earlier order) rows → T (ascends order rows)
ascends_of order [] s = T_of _ (ascends_none order)
ascends_of order (x ∷ []) s = T_of _ (ascends_one order x)
ascends_of order (x ∷ y ∷ rows) s = subst T (sym (ascends_yes order x y rows (of_T (earlier_by order x y) (s.0 y (Memᴰ-head refl))))) (ascends_of order (y ∷ rows) s.1)
