-- The questions 17, 18 and 19, one by one, and what an accepted call knows. Assumes nothing.
use Rattle.model.specs.Kit.{◌≡◌, refl, sym, ap, ◌∙◌, subst, Bool, true, false, not, List, ℕ, ◌≤◌, ◌<◌, arith, T, eqb, leb, length, eq-eqb, ne_eqb, eqb-true, le-leb, lt-leb, leb-true, not-false}
use Rattle.std.proofs.Common.{Option, Some, None, MatchOption, Result, Ok, Err}
use Rattle.model.specs.Nogood.{entries, entry_ok, first_wrong, filter_verdict, sets_after, filter_ending, filter_answer, answered}
use Rattle.model.specs.{Lists.at, Lists.both, Verdict.Verdict, Verdict.accepted, Verdict.refused, Verdict.ask, Verdict.reply}
use Rattle.model.proofs.{Lists.T_of, Lists.both_false, Lists.never, Masks.least_none, Masks.least_at, Masks.least_below}
use Rattle.filter.specs.Inner.Lists.{Listed, Applied, WrongFound}
use Rattle.filter.specs.{declared.Ending.Ending, FilterCalls.CallFilter}
use Rattle.model.specs.{Refusals.number_of, Refusals.verdict_from, declared.refusals.Refusal.Refusal}
use Rattle.filter.proofs.Marks.{ok_right}

-- ---- the first entry that is not right
module _ (n : ℕ) (xs es us : List ℕ) where
  abbrev pub ok_at : ℕ → Bool
  ok_at j = entry_ok n (at xs j) (at es j) (at us j)

  pub wrong_at : (i : ℕ) → i < length xs → ((j : ℕ) → j < i → ok_at j ≡ true) → ok_at i ≡ false → i ≡ first_wrong n xs es us
  unfolding first_wrong
  wrong_at i l h e = sym (least_at (length xs) (λ j. not (ok_at j)) i l (λ j m. ap not (h j m)) (ap not e))

  pub wrong_none : (i : ℕ) → length xs ≤ i → i ≤ length xs → ((j : ℕ) → j < i → ok_at j ≡ true) → i ≡ first_wrong n xs es us
  unfolding first_wrong
  wrong_none i l r h =
      let e : length xs ≡ i = omega arith in
      sym e ∙ sym (least_none (length xs) (λ j. not (ok_at j)) (λ j m. ap not (h j (omega arith))))

  -- what a search through the places answers
  pub found_wrong : (r : Option ℕ) → MatchOption r ((k : ℕ) → 0 ≤ k → k < length xs → ok_at k ≡ true) (λ i. (0 ≤ i) × (i < length xs) × (ok_at i ≡ false) × ((k : ℕ) → 0 ≤ k → k < i → ok_at k ≡ true))
      → WrongFound n xs es us r
  found_wrong None h = wrong_none (length xs) (omega arith) (omega arith) (λ j l. h j (omega arith) l)
  found_wrong (Some i) h = (h.1, wrong_at i h.1 (λ j l. h.3 j (omega arith) l) h.2)

  all_ok : first_wrong n xs es us ≡ length xs → (j : ℕ) → j < length xs → ok_at j ≡ true
  unfolding first_wrong
  all_ok e j l = not-false (ok_at j) (least_below (length xs) (λ i. not (ok_at i)) j (subst (λ (k : ℕ). j < k) (sym e) l))

-- ---- the verdict, question by question
module _ (ds xs es us : List ℕ) where
  pub no_set : length ds < 1 → refused 17 0 ≡ filter_verdict ds xs es us
  unfolding filter_verdict
  no_set h = simp (lt-leb 1 (length ds) h)

  pub many_sets : 12 < length ds → refused 17 0 ≡ filter_verdict ds xs es us
  unfolding filter_verdict
  many_sets h = simp (lt-leb (length ds) 12 h, both_false)

  module _ (h : 1 ≤ length ds) (m : length ds ≤ 12) where
    pub other_equals : (length es ≡ length xs → ⊥) → refused 18 0 ≡ filter_verdict ds xs es us
    unfolding filter_verdict
    other_equals p = simp (le-leb 1 (length ds) h, le-leb (length ds) 12 m, ne_eqb (length es) (length xs) p)

    pub other_others : (length us ≡ length xs → ⊥) → refused 18 0 ≡ filter_verdict ds xs es us
    unfolding filter_verdict
    other_others q = simp (le-leb 1 (length ds) h, le-leb (length ds) 12 m, ne_eqb (length us) (length xs) q, both_false)

    pub long_lists : 192 < length xs → refused 18 0 ≡ filter_verdict ds xs es us
    unfolding filter_verdict
    long_lists l = simp (le-leb 1 (length ds) h, le-leb (length ds) 12 m, lt-leb (length xs) 192 l, both_false)

    module _ (p : length es ≡ length xs) (q : length us ≡ length xs) (l : length xs ≤ 192) (r : ℕ) (b : r ≡ first_wrong (length ds) xs es us) where
      pub wrong_entry : (r ≡ length xs → ⊥) → refused 19 r ≡ filter_verdict ds xs es us
      unfolding filter_verdict
      wrong_entry z =
          simp (
            le-leb 1 (length ds) h,
            le-leb (length ds) 12 m,
            eq-eqb (length es) (length xs) p,
            eq-eqb (length us) (length xs) q,
            le-leb (length xs) 192 l,
            ne_eqb (first_wrong (length ds) xs es us) (length xs) (λ e. z (b ∙ e)),
            b,
          )

      pub all_right : r ≡ length xs → accepted ≡ filter_verdict ds xs es us
      unfolding filter_verdict
      all_right z =
          simp (
            le-leb 1 (length ds) h,
            le-leb (length ds) 12 m,
            eq-eqb (length es) (length xs) p,
            eq-eqb (length us) (length xs) q,
            le-leb (length xs) 192 l,
            eq-eqb (first_wrong (length ds) xs es us) (length xs) (sym b ∙ z),
          )

-- ---- what an accepted call knows
-- a question that was passed
passed : (b : Bool) (number item : ℕ) (later : Verdict) → accepted ≡ ask b number item later → (b ≡ true) × (accepted ≡ later)
passed true number item later e = (refl, e)
passed false number item later e = never (cc)

both_true : (a b : Bool) → both a b ≡ true → (a ≡ true) × (b ≡ true)
both_true true b e = (refl, e)
both_true false b e = absurd (subst T (sym e) tt)

module _ (ds xs es us : List ℕ) (a : Result Unit Refusal) (v : verdict_from a ≡ filter_verdict ds xs es us) where
  pub accepted_listed : a ≡ Ok tt → (length ds ≤ 12) × Listed (length ds) xs es us
  unfolding filter_verdict
  accepted_listed e =
      let p = passed _ 17 0 _ (ap verdict_from (sym e) ∙ v) in
      let q = passed _ 18 0 _ p.1 in
      let r = passed (eqb (first_wrong (length ds) xs es us) (length xs)) 19 (first_wrong (length ds) xs es us) accepted q.1 in
      let n = both_true (leb 1 (length ds)) (leb (length ds) 12) p.0 in
      let l = both_true (both (eqb (length es) (length xs)) (eqb (length us) (length xs))) (leb (length xs) 192) q.0 in
      let k = both_true (eqb (length es) (length xs)) (eqb (length us) (length xs)) l.0 in (
        leb-true (length ds) 12 n.1,
        record {
          equals = eqb-true (length es) (length xs) k.0;
          others = eqb-true (length us) (length xs) k.1;
          right = λ j h. ok_right (length ds) (at xs j) (at es j) (at us j)
              (T_of _ (all_ok (length ds) xs es us (eqb-true (first_wrong (length ds) xs es us) (length xs) r.0) j h));
        },
      )

  pub after_accepted : (rs : List ℕ) (r : Ending) → a ≡ Ok tt → Applied ds (entries xs es us) rs r → CallFilter ds xs es us (Ok r) rs
  unfolding sets_after filter_answer
  after_accepted rs r e h =
      let q : accepted ≡ filter_verdict ds xs es us = ap verdict_from (sym e) ∙ v in
      record { answers = ap answered h.ended ∙ ap (λ (w : Verdict). reply w (filter_ending ds (entries xs es us))) q; leaves = h.left ∙ ap (λ (w : Verdict). sets_after w ds (entries xs es us)) q }

  pub after_refused : (by : Refusal) → a ≡ Err by → CallFilter ds xs es us (Err by) ds
  unfolding sets_after filter_answer
  after_refused by e =
      let q : refused (number_of by.question) by.item ≡ filter_verdict ds xs es us = ap verdict_from (sym e) ∙ v in
      record { answers = ap (λ (w : Verdict). reply w (filter_ending ds (entries xs es us))) q; leaves = ap (λ (w : Verdict). sets_after w ds (entries xs es us)) q }
