-- What was asked of the rows one by one is what questions 12 and 13 ask of them together. Assumes nothing.
use Rattle.model.specs.Kit.{◌≡◌, refl, sym, ap₂, ◌∙◌, subst, Bool, true, false, ◌⊎◌, inl, inr, List, map, ℕ, zero, suc, ◌+◌, ◌*◌, ◌≤◌, ◌<◌, arith, T, eqb, ltb, ltb→lt, lt→ltb, ltb-true, ltb-false}
use Rattle.model.specs.Kit.{lt-ltb, eqb-true, eqb-false}
use Rattle.std.specs.Prelude.{Ok, Err}
use Rattle.model.specs.declared.refusals.Question.TheVariants.{RowOrder}
use Rattle.model.specs.{Lists.all, Lists.below, Lists.earlier, Lists.rows_ascend, Lists.choose, Sheet.word, Sheet.words}
use Rattle.model.proofs.{Lists.T_of, Lists.of_T, Lists.not_of, Lists.never, Accepted.length_words}
use Rattle.sheet.specs.Inner.Fill.{row_key, row_fits, least_key, order}
use Rattle.sheet.proofs.{Words.map_all_i, Words.map_all_e, Words.words_all_i, Words.words_all_e, Keys.Digits, Keys.key_earlier, Keys.key_words, Ascend.rows_i, Ascend.rows_e}

-- values below d are digits
pub digits : (b : List ℕ) (o a d : ℕ) → d ≤ 16 → T (all (λ w. ltb w d) (words b o a)) → Digits (words b o a)
digits b o a d l t =
    words_all_i (λ w. ltb w 16) b o a
    (λ j h. lt→ltb (word b (o + 2 * j)) 16 (let q = ltb→lt (word b (o + 2 * j)) d (words_all_e (λ w. ltb w d) b o a t j h) in omega arith))

module _ (b : List ℕ) (from a d : ℕ) (d16 : d ≤ 16) where
  -- keys are in the rows' order
  row_earlier : (i j : ℕ) → T (row_fits b from a d i) → T (row_fits b from a d j) → earlier (words b (from + 2 * (i * a)) a) (words b (from + 2 * (j * a)) a) ≡ ltb (row_key b from a i)
      (row_key b from a j)
  row_earlier i j p q =
      let o = from + 2 * (i * a) in
      let u = from + 2 * (j * a) in
      key_earlier 0 (words b o a) (words b u a) (length_words b o a ∙ sym (length_words b u a)) (digits b o a d d16 p) (digits b u a d d16 q)
      ∙ sym (ap₂ ltb (key_words b o a) (key_words b u a))

  -- question 13 was passed by each row in turn
  order_e : (n : ℕ) → order b from a n ≡ Ok tt → (j : ℕ) → j < n → least_key b from a j ≤ row_key b from a j
  unfolding order
  order_e zero e j l = absurd (omega arith)
  order_e (suc n) e j l = go (order_e n) (ltb (row_key b from a n) (least_key b from a n)) refl e (eqb j n) refl
    where
      go : (order b from a n ≡ Ok tt → (j : ℕ) → j < n → least_key b from a j ≤ row_key b from a j) → (t : Bool) → ltb (row_key b from a n) (least_key b from a n) ≡ t →
          choose t (Err RowOrder) (order b from a n) ≡ Ok tt → (s : Bool) → eqb j n ≡ s → least_key b from a j ≤ row_key b from a j
      go ih true u q s v = never (cc)
      go ih false u q true v = subst (λ (k : ℕ). least_key b from a k ≤ row_key b from a k) (sym (eqb-true j n v)) (ltb-false (row_key b from a n) (least_key b from a n) u)
      go ih false u q false v = let w : j ≡ n → ⊥ = eqb-false j n v in ih q j (omega arith)

  order_i : (n : ℕ) → ((j : ℕ) → j < n → least_key b from a j ≤ row_key b from a j) → order b from a n ≡ Ok tt
  unfolding order
  order_i zero h = refl
  order_i (suc n) h = go (order_i n (λ j l. h j (omega arith))) (ltb (row_key b from a n) (least_key b from a n)) refl
    where
      go : order b from a n ≡ Ok tt → (t : Bool) → ltb (row_key b from a n) (least_key b from a n) ≡ t → choose t (Err RowOrder) (order b from a n) ≡ Ok tt
      go ih true u = absurd (let w : row_key b from a n < least_key b from a n = ltb-true (row_key b from a n) (least_key b from a n) u in omega (arith, h n (omega arith)))
      go ih false u = ih

  pub order_two : (n : ℕ) → (order b from a n ≡ Ok tt) ⊎ (order b from a n ≡ Err RowOrder)
  unfolding order
  order_two zero = inl refl
  order_two (suc n) = go (order_two n) (ltb (row_key b from a n) (least_key b from a n))
    where
      go : (order b from a n ≡ Ok tt) ⊎ (order b from a n ≡ Err RowOrder) → (t : Bool) →
          (choose t (Err RowOrder) (order b from a n) ≡ Ok tt) ⊎ (choose t (Err RowOrder) (order b from a n) ≡ Err RowOrder)
      go ih true = inr refl
      go ih false = ih

  module _ (n : ℕ) (fits : (i : ℕ) → i < n → T (row_fits b from a d i)) where
    rises : order b from a n ≡ Ok tt → (j : ℕ) → suc j < n → T (earlier (words b (from + 2 * (j * a)) a) (words b (from + 2 * (suc j * a)) a))
    unfolding least_key
    rises e j l =
        T_of (earlier (words b (from + 2 * (j * a)) a) (words b (from + 2 * (suc j * a)) a))
        (row_earlier j (suc j) (fits j (omega arith)) (fits (suc j) l)
        ∙ lt-ltb (row_key b from a j) (row_key b from a (suc j)) (let q : row_key b from a j + 1 ≤ row_key b from a (suc j) = order_e n e (suc j) l in omega arith))

    least_of : ((j : ℕ) → suc j < n → T (earlier (words b (from + 2 * (j * a)) a) (words b (from + 2 * (suc j * a)) a))) → (j : ℕ) → j < n → least_key b from a j ≤ row_key b from a j
    unfolding least_key
    least_of h zero l = omega arith
    least_of h (suc j) l =
        let q : row_key b from a j < row_key b from a (suc j) =
        ltb→lt (row_key b from a j) (row_key b from a (suc j)) (subst T (row_earlier j (suc j) (fits j (omega arith)) (fits (suc j) l)) (h j l)) in
        omega arith

    pub rows_ascend_lem : order b from a n ≡ Ok tt → rows_ascend (map (λ i. words b (from + 2 * (i * a)) a) (below n)) ≡ true
    rows_ascend_lem e =
        of_T (rows_ascend (map (λ i. words b (from + 2 * (i * a)) a) (below n)))
        (rows_i (λ i. words b (from + 2 * (i * a)) a) n (rises e))

    pub rows_fall : (order b from a n ≡ Ok tt → ⊥) → rows_ascend (map (λ i. words b (from + 2 * (i * a)) a) (below n)) ≡ false
    rows_fall h =
        not_of (rows_ascend (map (λ i. words b (from + 2 * (i * a)) a) (below n)))
        (λ t. h (order_i n (least_of (rows_e (λ i. words b (from + 2 * (i * a)) a) n t))))

    pub rows_fit : all (all (λ w. ltb w d)) (map (λ i. words b (from + 2 * (i * a)) a) (below n)) ≡ true
    rows_fit =
        of_T (all (all (λ w. ltb w d)) (map (λ i. words b (from + 2 * (i * a)) a) (below n)))
        (map_all_i (all (λ w. ltb w d)) (λ i. words b (from + 2 * (i * a)) a) n fits)

  pub row_unfit : (n i : ℕ) → i < n → (T (row_fits b from a d i) → ⊥) → all (all (λ w. ltb w d)) (map (λ i. words b (from + 2 * (i * a)) a) (below n)) ≡ false
  row_unfit n i l h =
      not_of (all (all (λ w. ltb w d)) (map (λ i. words b (from + 2 * (i * a)) a) (below n)))
      (λ t. h (map_all_e (all (λ w. ltb w d)) (λ i. words b (from + 2 * (i * a)) a) n t i l))
