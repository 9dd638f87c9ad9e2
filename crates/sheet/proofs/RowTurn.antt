-- The turns of the loops over one row and over the rows of a constraint. Assumes nothing.
use Rattle.model.specs.Kit.{◌≡◌, refl, sym, ap, ap₂, ◌∙◌, subst, Bool, true, false, List, ℕ, zero, suc, ◌+◌, ◌*◌, ◌≤◌, ◌<◌, arith, not-suc-le-zero, mul-le-mul_right, suc-mul, add-one, T, ltb, ltb→lt}
use Rattle.model.specs.Kit.{lt→ltb, eqb, eqb-true, eqb-false}
use Rattle.model.specs.{Lists.all, Lists.choose, Sheet.word, Sheet.words}
use Rattle.sheet.specs.Inner.Fill.{key_to, row_key, row_fits, least_key, order, with_row, with_rows, RowRead, RowsAsked}
use Rattle.sheet.proofs.Words.{words_all_i, words_all_e}
use Rattle.std.specs.Prelude.{Option, Some, None, Result, Ok, Err}
use Rattle.model.specs.declared.refusals.{Question.Question, Question.TheVariants.RowValues, Question.TheVariants.RowOrder}
use Rattle.model.proofs.Lists.{never}

-- ---- one row
-- as the code reads it: a values, each below d
row_good : (b : List ℕ) (o a d key n : ℕ) → a ≡ n → key < 4096 → key ≡ key_to b o n → ((j : ℕ) → j < n → word b (o + 2 * j) < d) → RowRead b o a d (Some key)
row_good b o a d key n e l k f =
    subst (λ (m : ℕ). RowRead b o m d (Some key)) (sym e)
    (record {
      good = λ other q. subst (λ (i : ℕ). (i < 4096) × (i ≡ key_to b o n) × T (all (λ w. ltb w d) (words b o n))) (same other q)
          (l, k, words_all_i (λ w. ltb w d) b o n (λ j h. lt→ltb (word b (o + 2 * j)) d (f j h)));
      bad = λ h. never (cc);
    })
  where
    same : (other : ℕ) → Some key ≡ Some other → key ≡ other
    same other q = cc

module _ (b : List ℕ) (o a d : ℕ) (small : d ≤ 16) (v : ℕ) (lv : v < d) (ev : v ≡ word b o) where
  first : word b (o + 2 * 0) ≡ v
  first = ap (word b) (let e : o + 2 * 0 ≡ o = omega arith in e) ∙ sym ev

  pub key_one : a ≡ 1 → RowRead b o a d (Some v)
  unfolding key_to
  key_one e = row_good b o a d v 1 e (omega arith) (omega (arith, first)) fits
    where
      fits : (j : ℕ) → j < 1 → word b (o + 2 * j) < d
      fits zero h = omega (arith, first)
      fits (suc j) h = absurd (omega arith)

  module _ (w : ℕ) (lw : w < d) (ew : w ≡ word b (o + 2)) where
    second : word b (o + 2 * 1) ≡ w
    second = sym ew

    pub key_two : a ≡ 2 → RowRead b o a d (Some (16 * v + w))
    unfolding key_to
    key_two e = row_good b o a d (16 * v + w) 2 e (omega arith) (omega (arith, first, second)) fits
      where
        fits : (j : ℕ) → j < 2 → word b (o + 2 * j) < d
        fits zero h = omega (arith, first)
        fits (suc zero) h = omega (arith, second)
        fits (suc (suc j)) h = absurd (omega arith)

    pub key_three : (u : ℕ) → u < d → u ≡ word b (o + 4) → a ≡ 3 → RowRead b o a d (Some (16 * (16 * v + w) + u))
    unfolding key_to
    key_three u lu eu e = row_good b o a d (16 * (16 * v + w) + u) 3 e (omega arith) (omega (arith, first, second, third)) fits
      where
        third : word b (o + 2 * 2) ≡ u
        third = sym eu

        fits : (j : ℕ) → j < 3 → word b (o + 2 * j) < d
        fits zero h = omega (arith, first)
        fits (suc zero) h = omega (arith, second)
        fits (suc (suc zero)) h = omega (arith, third)
        fits (suc (suc (suc j))) h = absurd (omega arith)

pub key_bad : (b : List ℕ) (o a d i v from : ℕ) → i < a → d ≤ v → from ≡ o + 2 * i → v ≡ word b from → RowRead b o a d None
key_bad b o a d i v from l m f e =
    record {
      good = λ other h. never (cc);
      bad = λ h t. let q : word b (o + 2 * i) < d = ltb→lt (word b (o + 2 * i)) d (words_all_e (λ w. ltb w d) b o a t i l) in omega (arith, ap (word b) f);
    }

-- ---- the rows
-- i rows were read, and the next stands at an offset
pub record RowsTo (b : List ℕ) (from a d base : ℕ) (old : List ℕ) (i : ℕ) (new : List ℕ) (asked : Result Unit Question) (least next : ℕ) : Type 0 where
  pub here : next ≡ from + 2 * (i * a)
  pub floor : least ≡ least_key b from a i
  pub ordered : asked ≡ order b from a i
  pub fits : (j : ℕ) → j < i → T (row_fits b from a d j)
  pub stored : new ≡ with_rows b from a base i old

pub rows_none : (b : List ℕ) (from a d base : ℕ) (old : List ℕ) → RowsTo b from a d base old 0 old (Ok tt) 0 from
unfolding least_key order with_rows
rows_none b from a d base old =
    record {
      here = omega arith;
      floor = refl;
      ordered = refl;
      fits = λ j l. absurd (not-suc-le-zero l);
      stored = refl;
    }

-- a row more fits where there is one more
pub room : (i n a : ℕ) → i < n → i * a + a ≤ n * a
room i n a l = let h : suc i * a ≤ n * a = mul-le-mul_right a l in let e : suc i * a ≡ i * a + a = suc-mul i a in omega arith

module _ (b : List ℕ) (from a d base : ℕ) (old : List ℕ) (i : ℕ) (new : List ℕ) (asked : Result Unit Question) (least next : ℕ) (t : RowsTo b from a d base old i new asked least next) where
  -- the row that stands next is row i
  pub row_here : (r : Option ℕ) (key : ℕ) → r ≡ Some key → RowRead b next a d r → (key ≡ row_key b from a i) × T (row_fits b from a d i)
  row_here r key l f =
      let e = t.here in
      let g = f.good key l in
      (g.1 ∙ ap (λ (o : ℕ). key_to b o a) e, subst (λ (o : ℕ). T (all (λ w. ltb w d) (words b o a))) e g.2)

  pub row_bad : (key : Option ℕ) (n : ℕ) → key ≡ None → i < n → RowRead b next a d key → RowsAsked b from a n d base old new (Err RowValues)
  row_bad key n l m r =
      record {
        refused = λ _. (i, m, λ q. r.bad l (subst (λ (o : ℕ). T (all (λ w. ltb w d) (words b o a))) (sym t.here) q));
        passed = λ q. absurd (q refl);
      }

  pub rows_more : (r : Option ℕ) (key : ℕ) (asked' : Result Unit Question) (stored : List ℕ) → r ≡ Some key → RowRead b next a d r → asked' ≡ choose (ltb key least) (Err RowOrder) asked →
      stored ≡ with_row base key new → RowsTo b from a d base old (i + 1) stored asked' (key + 1) (next + 2 * a)
  unfolding least_key order with_rows
  rows_more r key asked' stored l f e es =
      let k = row_here r key l f in
      let z : suc i ≡ i + 1 = omega arith in
      record {
        here = (let w : suc i * a ≡ i * a + a = suc-mul i a in let v : (i + 1) * a ≡ i * a + a = ap (λ (n : ℕ). n * a) (add-one i) ∙ w in omega (arith, t.here));
        floor = ap (λ (n : ℕ). n + 1) k.0 ∙ ap (least_key b from a) z;
        ordered = e ∙ ap₂ (λ (x y : ℕ). choose (ltb x y) (Err RowOrder) asked) k.0 t.floor
            ∙ ap (choose (ltb (row_key b from a i) (least_key b from a i)) (Err RowOrder)) t.ordered ∙ ap (order b from a) z;
        fits = λ j h. below j h (eqb j i) refl k.1;
        stored = es ∙ ap₂ (λ (n : ℕ) (x : List ℕ). with_row base n x) k.0 t.stored ∙ ap (λ (n : ℕ). with_rows b from a base n old) z;
      }
    where
      below : (j : ℕ) → j < i + 1 → (t : Bool) → eqb j i ≡ t → T (row_fits b from a d i) → T (row_fits b from a d j)
      below j h true q f = subst (λ (n : ℕ). T (row_fits b from a d n)) (sym (eqb-true j i q)) f
      below j h false q f = let n : j ≡ i → ⊥ = eqb-false j i q in t.fits j (omega arith)

  order_not : (n : ℕ) → order b from a n ≡ Err RowValues → ⊥
  unfolding order
  order_not zero e = never (cc)
  order_not (suc n) e = go (order_not n) (ltb (row_key b from a n) (least_key b from a n)) e
    where
      go : (order b from a n ≡ Err RowValues → ⊥) → (u : Bool) → choose u (Err RowOrder) (order b from a n) ≡ Err RowValues → ⊥
      go ih true q = never (cc)
      go ih false q = ih q

  pub rows_end : (n : ℕ) → n ≤ i → i ≤ n → RowsAsked b from a n d base old new asked
  rows_end n l m =
      let e : i ≡ n = omega arith in
      record {
        refused = λ q. absurd (order_not i (sym t.ordered ∙ q));
        passed = λ _. (t.ordered ∙ ap (order b from a) e, λ j h. t.fits j (omega arith), t.stored ∙ ap (λ (k : ℕ). with_rows b from a base k old) e);
      }
