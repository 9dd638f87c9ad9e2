-- The loops over a table, one number further: whether it permutes the pairs, and the codes of its images. Assumes nothing.
use Rattle.model.specs.Kit.{◌≡◌, refl, sym, ap, ap₂, ◌∙◌, subst, Bool, true, false, List, ℕ, ◌+◌, ◌*◌, ◌%◌, ◌≤◌, ◌<◌, not-suc-le-zero, mul-le-mul, mul-le-mul_right, lt_of_lt_of_le, arith, T, eqb}
use Rattle.model.specs.Kit.{eqb→eq, length, set, eqb-true, eqb-false, eq-eqb, ne_eqb}
use Rattle.model.specs.{Lists.all, Lists.below, Lists.at, ValueSets.has, Problem.Problem, Problem.is_pair, Problem.pair, Sheet.word, Sheet.permutes_pairs, Sheet.distinct, Inner.WellFormed.Stated}
use Rattle.model.proofs.Lists.{T_of, of_T, not_of, of_not, both_i, both_l, both_r, all_i, all_e, below_i, below_e, at_set, at_set_other}
use Rattle.model.proofs.{Counting.distinct_at, Accepted.length_words, Accepted.at_words, Pairs.init_lt, Pairs.is_pair_i, Pairs.pair_div, Pairs.pair_mod, Pairs.pair_lt}
use Rattle.arrays.specs.Inner.Layout.{image_code, pair_code_of}
use Rattle.sheet_table.specs.{Inner.Table.table_of, Inner.Forbidden.Decoded, Inner.Forbidden.Back, Inner.Forbidden.Blank, Inner.Forbidden.Drawn}
use Rattle.sheet_table.specs.Inner.Scan.{fits, Seen, DrawnAt, DrawnTo}
use Rattle.sheet_table.proofs.{Codes.code_inj, Laws.distinct_of}

-- ---- the words of a table
pub table_at_lem : (p : Problem) (sheet : List ℕ) (offset q : ℕ) → q < p.variables * p.values → at (table_of p sheet offset) q ≡ word sheet (offset + 2 * q)
table_at_lem p sheet offset q h = at_words sheet offset (p.variables * p.values) q h

pub table_length : (p : Problem) (sheet : List ℕ) (offset : ℕ) → length (table_of p sheet offset) ≡ p.variables * p.values
table_length p sheet offset = length_words sheet offset (p.variables * p.values)

pub table_small : (p : Problem) → Stated p → p.variables * p.values ≤ 192
table_small p w = mul-le-mul w.few w.sixteen

-- ---- whether a table permutes the pairs
case_true : (b c d : Bool) → b ≡ true → elim b [ true ↦ c | false ↦ d ] ≡ c
case_true true c d e = refl
case_true false c d e = absurd (subst T (sym e) tt)

case_false : (b c d : Bool) → b ≡ false → elim b [ true ↦ c | false ↦ d ] ≡ d
case_false true c d e = absurd (subst T e tt)
case_false false c d e = refl

-- one number more
here : (q : ℕ) (P : ℕ → Type 0) → P q → ((j : ℕ) → j < q → P j) → (j : ℕ) → j < q + 1 → P j
here q P h f j l = go (eqb j q) refl
  where
    go : (b : Bool) → eqb j q ≡ b → P j
    go true e = subst P (sym (eqb-true j q e)) h
    go false e = let n : j ≡ q → ⊥ = eqb-false j q e in f j (omega arith)

pub seen_none : (p : Problem) (g : List ℕ) (seen : List ℕ) → ((y : ℕ) → at seen y ≡ 0) → Seen p g seen 0
seen_none p g seen z =
    record {
      fitting = λ j h. absurd (not-suc-le-zero h);
      marked = λ j h. absurd (not-suc-le-zero h);
      reached = λ y e. absurd (let f : ◌≡◌ {A = ℕ} 0 1 = sym (z y) ∙ e in omega arith);
      apart = λ i j l h. absurd (not-suc-le-zero h);
    }

module _ (p : Problem) (g seen : List ℕ) (q : ℕ) (s : Seen p g seen q) where
  -- a number that is no pair stands for itself
  pub seen_same : is_pair p q ≡ false → at g q ≡ q → Seen p g seen (q + 1)
  seen_same e i =
      let no : T (is_pair p q) → ⊥ = of_not (is_pair p q) e in
      record {
        fitting = here q (λ (j : ℕ). T (fits p g j)) (T_of (fits p g q) (case_false (is_pair p q) (is_pair p (at g q)) (eqb (at g q) q) e ∙ eq-eqb (at g q) q i)) s.fitting;
        marked = here q (λ (j : ℕ). T (is_pair p j) → at seen (at g j) ≡ 1) (λ t. absurd (no t)) s.marked;
        reached = λ y m. let r = s.reached y m in (r.0, omega (arith, r.1), r.2, r.3);
        apart = λ a b l h. here q (λ (j : ℕ). a < j → T (is_pair p a) → T (is_pair p j) → at g a ≡ at g j → ⊥) (λ l t u. absurd (no u)) (λ j h l. s.apart a j l h) b h l;
      }

  -- a pair goes to one that none went to
  pub seen_more : is_pair p q ≡ true → is_pair p (at g q) ≡ true → at g q < length seen → (at seen (at g q) ≡ 1 → ⊥) → Seen p g (set seen (at g q) 1) (q + 1)
  seen_more e i l n =
      record {
        fitting = here q (λ (j : ℕ). T (fits p g j)) (T_of (fits p g q) (case_true (is_pair p q) (is_pair p (at g q)) (eqb (at g q) q) e ∙ i)) s.fitting;
        marked = here q (λ (j : ℕ). T (is_pair p j) → at (set seen (at g q) 1) (at g j) ≡ 1) (λ t. at_set seen (at g q) 1 l) (λ j h t. kept (at g j) (s.marked j h t));
        reached = λ y m. found y m (eqb y (at g q)) refl;
        apart = λ a b k h. here q (λ (j : ℕ). a < j → T (is_pair p a) → T (is_pair p j) → at g a ≡ at g j → ⊥)
            (λ k t u f. n (ap (at seen) (sym f) ∙ s.marked a k t)) (λ j h k. s.apart a j k h) b h k;
      }
    where
      kept : (y : ℕ) → at seen y ≡ 1 → at (set seen (at g q) 1) y ≡ 1
      kept y m = at_set_other seen (at g q) 1 y (λ f. n (ap (at seen) (sym f) ∙ m)) ∙ m

      found : (y : ℕ) → at (set seen (at g q) 1) y ≡ 1 → (b : Bool) → eqb y (at g q) ≡ b → (j : ℕ) × (j < q + 1) × T (is_pair p j) × (at g j ≡ y)
      found y m true f = (q, omega arith, T_of (is_pair p q) e, sym (eqb-true y (at g q) f))
      found y m false f = let r = s.reached y (sym (at_set_other seen (at g q) 1 y (eqb-false y (at g q) f)) ∙ m) in (r.0, omega (arith, r.1), r.2, r.3)

  -- what stops the loop
  module _ (h : q < p.variables * p.values) where
    unfit : fits p g q ≡ false → false ≡ permutes_pairs p g
    unfolding permutes_pairs
    unfit e =
        sym (not_of (permutes_pairs p g)
        (λ t. of_not (fits p g q) e (all_e (fits p g) (below (p.variables * p.values)) (both_l (all (fits p g) (below (p.variables * p.values))) (distinct g) t) q
        (below_i (p.variables * p.values) q h))))

    pub seen_moved : is_pair p q ≡ false → (at g q ≡ q → ⊥) → false ≡ permutes_pairs p g
    seen_moved e n = unfit (case_false (is_pair p q) (is_pair p (at g q)) (eqb (at g q) q) e ∙ ne_eqb (at g q) q n)

    pub seen_out : is_pair p q ≡ true → is_pair p (at g q) ≡ false → false ≡ permutes_pairs p g
    seen_out e i = unfit (case_true (is_pair p q) (is_pair p (at g q)) (eqb (at g q) q) e ∙ i)

    pub seen_twice : length g ≡ p.variables * p.values → at seen (at g q) ≡ 1 → false ≡ permutes_pairs p g
    unfolding permutes_pairs
    seen_twice z m =
        let r = s.reached (at g q) m in
        sym (not_of (permutes_pairs p g)
        (λ t. let f = distinct_at g (both_r (all (fits p g) (below (p.variables * p.values))) (distinct g) t) r.0 q (omega (arith, r.1, z)) (omega (arith, z)) r.3 in omega (arith, r.1, f)))

-- after the last number
pub seen_all : (p : Problem) (g seen : List ℕ) → Seen p g seen (p.variables * p.values) → length g ≡ p.variables * p.values → true ≡ permutes_pairs p g
unfolding permutes_pairs
seen_all p g seen s z =
    sym (of_T (permutes_pairs p g)
    (both_i (all (fits p g) (below (p.variables * p.values))) (distinct g) (all_i (fits p g) (below (p.variables * p.values)) (λ j m. s.fitting j (below_e (p.variables * p.values) j m)))
    (distinct_of g (λ i j l h e. two i j l (subst (λ (n : ℕ). j < n) z h) e (is_pair p i) refl (is_pair p j) refl))))
  where
    pair_to : (j : ℕ) → j < p.variables * p.values → is_pair p j ≡ true → T (is_pair p (at g j))
    pair_to j h e = subst T (case_true (is_pair p j) (is_pair p (at g j)) (eqb (at g j) j) e) (s.fitting j h)

    same_to : (j : ℕ) → j < p.variables * p.values → is_pair p j ≡ false → at g j ≡ j
    same_to j h e = eqb→eq (at g j) j (subst T (case_false (is_pair p j) (is_pair p (at g j)) (eqb (at g j) j) e) (s.fitting j h))

    two : (i j : ℕ) → i < j → j < p.variables * p.values → at g i ≡ at g j → (b : Bool) → is_pair p i ≡ b → (c : Bool) → is_pair p j ≡ c → ⊥
    two i j l h e true b true c = s.apart i j l h (T_of (is_pair p i) b) (T_of (is_pair p j) c) e
    two i j l h e true b false c = of_not (is_pair p j) c (subst (λ (y : ℕ). T (is_pair p y)) (e ∙ same_to j h c) (pair_to i (omega arith) b))
    two i j l h e false b true c = of_not (is_pair p i) b (subst (λ (y : ℕ). T (is_pair p y)) (sym e ∙ same_to i (omega arith) b) (pair_to j h c))
    two i j l h e false b false c = let f : i ≡ j = sym (same_to i (omega arith) b) ∙ e ∙ same_to j h c in omega arith

-- as the code reads a table: y is the number at q
module _ (p : Problem) (sheet : List ℕ) (offset : ℕ) (seen : List ℕ) (q y : ℕ) (s : Seen p (table_of p sheet offset) seen q) (h : q < p.variables * p.values)
    (e : y ≡ word sheet (offset + 2 * q)) where
  is : at (table_of p sheet offset) q ≡ y
  is = table_at_lem p sheet offset q h ∙ sym e

  pub read_out : is_pair p q ≡ true → is_pair p y ≡ false → false ≡ permutes_pairs p (table_of p sheet offset)
  read_out t f = seen_out p _ seen q s h t (ap (is_pair p) is ∙ f)

  pub read_twice : at seen y ≡ 1 → false ≡ permutes_pairs p (table_of p sheet offset)
  read_twice m = seen_twice p _ seen q s h (table_length p sheet offset) (ap (at seen) is ∙ m)

  pub read_moved : is_pair p q ≡ false → (y ≡ q → ⊥) → false ≡ permutes_pairs p (table_of p sheet offset)
  read_moved t n = seen_moved p _ seen q s h t (λ i. n (sym is ∙ i))

  -- `new` is what the code then has for `seen`
  pub read_same : (new : List ℕ) → new ≡ seen → is_pair p q ≡ false → y ≡ q → Seen p (table_of p sheet offset) new (q + 1)
  read_same new z t i = subst (λ (l : List ℕ). Seen p (table_of p sheet offset) l (q + 1)) (sym z) (seen_same p _ seen q s t (is ∙ i))

  pub read_more : (new : List ℕ) → new ≡ set seen y 1 → is_pair p q ≡ true → is_pair p y ≡ true → y < length seen → (at seen y ≡ 1 → ⊥) → Seen p (table_of p sheet offset) new (q + 1)
  read_more new z t f l n =
      subst (λ (r : List ℕ). Seen p (table_of p sheet offset) r (q + 1)) (sym (z ∙ ap (λ (u : ℕ). set seen u 1) (sym is)))
      (seen_more p _ seen q s t (ap (is_pair p) is ∙ f) (subst (λ (u : ℕ). u < length seen) (sym is) l) (λ m. n (sym (ap (at seen) is) ∙ m)))

-- ---- the codes of the images of pairs, and the values that they come from
pub drawn_none : (p : Problem) (g codes moves : List ℕ) → DrawnTo p g codes moves 0
drawn_none p g codes moves j h = absurd (not-suc-le-zero h)

module _ (p : Problem) (w : Stated p) (g codes moves : List ℕ) where
  -- as the code stores them
  module _ (q : ℕ) (d : DrawnTo p g codes moves q) where
    pub drawn_same : is_pair p q ≡ false → (new back : List ℕ) → new ≡ codes → back ≡ moves → DrawnTo p g new back (q + 1)
    drawn_same e new back en eb =
        subst (λ (l : List ℕ). DrawnTo p g l back (q + 1)) (sym en) (subst (λ (l : List ℕ). DrawnTo p g codes l (q + 1)) (sym eb)
        (here q (DrawnAt p g codes moves) (λ t. absurd (of_not (is_pair p q) e t)) d))

    pub drawn_more : (seen : List ℕ) → Seen p g seen q → (at seen (at g q) ≡ 1 → ⊥) → pair_code_of p.values q < length codes → pair_code_of p.values (at g q) < length moves →
        DrawnTo p g (set codes (pair_code_of p.values q) (pair_code_of p.values (at g q))) (set moves (pair_code_of p.values (at g q)) (q % p.values)) (q + 1)
    drawn_more seen s n lc lm =
        here q (DrawnAt p g new back)
        (λ t. (at_set codes _ _ lc, at_set moves _ _ lm))
        (λ j h t. (
          at_set_other codes _ _ _ (λ f. let e : j ≡ q = code_inj j q p.values w.one w.sixteen f in omega arith) ∙ (d j h t).0,
          at_set_other moves _ _ _ (λ f. n (ap (at seen) (sym (code_inj (at g j) (at g q) p.values w.one w.sixteen f)) ∙ s.marked j h t)) ∙ (d j h t).1,
        ))
      where
        new : List ℕ
        new = set codes (pair_code_of p.values q) (pair_code_of p.values (at g q))

        back : List ℕ
        back = set moves (pair_code_of p.values (at g q)) (q % p.values)

  module _ (d : DrawnTo p g codes moves (p.variables * p.values)) where
    drawn : (x v : ℕ) → x < p.variables → T (has (at p.initial x) v) →
        (at codes (pair_code_of p.values (pair p x v)) ≡ image_code p g x v) × (at moves (image_code p g x v) ≡ pair p x v % p.values)
    drawn x v h t = d (pair p x v) (pair_lt p x v h (init_lt p w.narrow x v h t)) (is_pair_i p w.narrow x v h t)

    pub drawn_decoded : Decoded p g codes
    drawn_decoded x v h t =
        let l = init_lt p w.narrow x v h t in
        ap₂ (λ (y u : ℕ). at codes (16 * y + u)) (sym (pair_div p x v l)) (sym (pair_mod p x v l)) ∙ (drawn x v h t).0

    pub drawn_back : Back p codes moves
    drawn_back x v h t = ap (at moves) (drawn_decoded x v h t) ∙ (drawn x v h t).1 ∙ pair_mod p x v (init_lt p w.narrow x v h t)

-- a number of the table among d values
pub number_lt : (p : Problem) → Stated p → (d : ℕ) → d ≡ p.values → (z : ℕ) → z < p.variables * p.values → z < 12 * d
number_lt p w d i z l = subst (λ (n : ℕ). z < 12 * n) (sym i) (lt_of_lt_of_le l (mul-le-mul_right p.values w.few))

-- as the code reads a table: `spot` and `code` are the codes of q and of y, the number at q, and `new` and `back` what it then has
module _ (p : Problem) (w : Stated p) (sheet : List ℕ) (offset : ℕ) (seen : List ℕ) (q y : ℕ) (s : Seen p (table_of p sheet offset) seen q) (h : q < p.variables * p.values) where
  pub read_drawn : y ≡ word sheet (offset + 2 * q) → (at seen y ≡ 1 → ⊥) → (codes moves : List ℕ) → Blank codes moves → (d spot code : ℕ) → d ≡ p.values → (spot ≡ pair_code_of d q) × (spot < 192) →
      (code ≡ pair_code_of d y) × (code < 192) → (new back : List ℕ) → new ≡ set codes spot code → back ≡ set moves code (q % d) →
      DrawnTo p (table_of p sheet offset) codes moves q → DrawnTo p (table_of p sheet offset) new back (q + 1)
  read_drawn e n codes moves r d spot code i es ec new back en eb t =
      let g = table_of p sheet offset in
      let is : at g q ≡ y = table_at_lem p sheet offset q h ∙ sym e in
      let here-is : spot ≡ pair_code_of p.values q = es.0 ∙ ap (λ (m : ℕ). pair_code_of m q) i in
      let image_is : code ≡ pair_code_of p.values (at g q) = ec.0 ∙ ap₂ pair_code_of i (sym is) in
      subst (λ (l : List ℕ). DrawnTo p g l back (q + 1)) (sym (en ∙ ap₂ (set codes) here-is image_is))
      (subst (λ (l : List ℕ). DrawnTo p g (set codes (pair_code_of p.values q) (pair_code_of p.values (at g q))) l (q + 1)) (sym (eb ∙ ap₂ (set moves) image_is (ap (λ (m : ℕ). q % m) i)))
      (drawn_more p w g codes moves q t seen s (λ m. n (sym (ap (at seen) is) ∙ m)) (omega (arith, here-is, es.1, r.codes_room)) (omega (arith, image_is, ec.1, r.moves_room))))

-- what the code answers
pub drawn_no : (p : Problem) (g codes moves : List ℕ) → false ≡ permutes_pairs p g → Drawn p g codes moves false
drawn_no p g codes moves e = record { answers = e; decoded = λ f. absurd (subst T (sym f) tt); back = λ f. absurd (subst T (sym f) tt) }

pub drawn_yes : (p : Problem) → Stated p → (g codes moves : List ℕ) → true ≡ permutes_pairs p g → DrawnTo p g codes moves (p.variables * p.values) → Drawn p g codes moves true
drawn_yes p w g codes moves e d = record { answers = e; decoded = λ _. drawn_decoded p w g codes moves d; back = λ _. drawn_back p w g codes moves d }
