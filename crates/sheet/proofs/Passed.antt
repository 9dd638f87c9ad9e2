-- What the questions leave where the answer is that there is no "no". Assumes nothing.
use Rattle.model.specs.Kit.{◌≡◌, refl, ap, ◌∙◌, subst, List, [], ℕ, zero, suc, ◌+◌, ◌*◌, ◌<◌, arith, not-suc-le-zero, T, leb, ltb, eqb, leb→le, ltb→lt, length, get_or}
use Rattle.model.specs.Sheet.{Header, header_of, word, words, scope_at, rows_at, after_at, constraints_from, constraints_verdict}
use Rattle.model.specs.{Lists.both, Lists.all, Lists.ascending, Verdict.Verdict, Verdict.is_accepted}
use Rattle.model.proofs.{Lists.both_l, Lists.both_r, Accepted.asked, Accepted.header_e, Accepted.ConstraintPassed, Accepted.constraint_asked}
use Rattle.sheet.specs.{Inner.Parts.header_asked, Inner.Parts.Fit, Inner.Steps.offset_at}
use Rattle.sheet.proofs.{Words.map_all_e, Words.words_all_e, Touch.Good}

-- questions 1 to 7
pub fit : (b : List ℕ) (later : Verdict) → T (is_accepted (header_asked b later)) → Fit b × T (is_accepted later)
fit b later t =
    let q = header_e (header_of b) (length b) later t in
    let h = q.0 in
    let r : Fit b = record {
      long = h.long;
      some = h.some;
      few = h.few;
      one = h.one;
      sixteen = h.sixteen;
      constraints = h.constraints;
      symmetries = h.symmetries;
      whole = h.whole;
      second = h.second;
      ordered = h.ordered;
      third = omega (arith, h.third, h.whole);
    } in
    (r, q.1)

-- ---- the constraints
offset_next : (b : List ℕ) (o j : ℕ) → offset_at b (after_at b o) j ≡ offset_at b o (suc j)
unfolding offset_at
offset_next b o zero = refl
offset_next b o (suc j) = ap (after_at b) (offset_next b o j)

module _ (b : List ℕ) (h : Header) where
  pub good : (k i o : ℕ) (later : Verdict) → T (is_accepted (constraints_verdict b h k i o later)) → ((j : ℕ) → j < k → Good b h.variables h.values (offset_at b o j)) × T (is_accepted later)
  unfolding constraints_verdict offset_at scope_at rows_at
  good zero i o later t = (λ j l. absurd (not-suc-le-zero l), (asked (eqb o h.third) 9 i later t).1)
  good (suc k) i o later t =
      let q = constraint_asked b h i o (constraints_verdict b h k (suc i) (after_at b o) later) t in
      let r = good k (suc i) (after_at b o) later q.1 in
      (go q.0 r.0, r.1)
    where
      go : ConstraintPassed b h o → ((j : ℕ) → j < k → Good b h.variables h.values (offset_at b (after_at b o) j)) → (j : ℕ) → j < suc k → Good b h.variables h.values (offset_at b o j)
      go q ih zero l =
          let sizes = both_l (both (leb 1 (word b o)) (leb (word b o) 3)) (leb (word b (o + 2)) 256) q.counts in
          record {
            some = leb→le 1 (word b o) (both_l (leb 1 (word b o)) (leb (word b o) 3) sizes);
            few = leb→le (word b o) 3 (both_r (leb 1 (word b o)) (leb (word b o) 3) sizes);
            scoped = λ m z. ltb→lt (word b (o + 4 + 2 * m)) h.variables (words_all_e (λ x. ltb x h.variables) b (o + 4) (word b o)
                (both_l (all (λ x. ltb x h.variables) (scope_at b o)) (ascending (scope_at b o)) q.scoped) m z);
            ordered = both_r (all (λ x. ltb x h.variables) (scope_at b o)) (ascending (scope_at b o)) q.scoped;
            valued = map_all_e (all (λ w. ltb w h.values)) (λ m. words b (o + 4 + 2 * word b o + 2 * (m * word b o)) (word b o)) (word b (o + 2)) q.valued;
          }
      go q ih (suc j) l = subst (Good b h.variables h.values) (offset_next b o j) (ih j (omega arith))

-- the constraints of the problem
pub constraint_at_lem : (b : List ℕ) (k o j : ℕ) → j < k → get_or (constraints_from b k o) j (record { scope = []; rows = [] }) ≡ record
    { scope = scope_at b (offset_at b o j); rows = rows_at b (offset_at b o j) }
unfolding constraints_from offset_at
constraint_at_lem b zero o j l = absurd (not-suc-le-zero l)
constraint_at_lem b (suc k) o zero l = refl
constraint_at_lem b (suc k) o (suc j) l = constraint_at_lem b k (after_at b o) j (omega arith) ∙ ap (λ (q : ℕ). record { scope = scope_at b q; rows = rows_at b q }) (offset_next b o j)
