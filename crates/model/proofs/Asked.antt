-- The questions to a sheet that has the header and the constraints of an accepted one, and tables of its own. Assumes nothing.
use Rattle.model.specs.Kit.{◌≡◌, refl, sym, ap, ap₂, ◌∙◌, subst, Bool, true, not, List, [], ◌∷◌, ◌++◌, map, Memᴰ, Memᴰ-head, Memᴰ-tail, ℕ, zero, suc, ◌+◌, ◌*◌, ◌^◌, ◌≤◌, ◌<◌}
use Rattle.model.specs.Kit.{arith, T, leb, ltb, eqb, leb→le, not_T, eqb→eq, length, eq-eqb, le-leb, lt-ltb}
use Rattle.model.specs.Problem.{Problem, Constraint, pair, is_pair, pairs_at, within, assignments, doubled, excluded, forbidden, respects, with_symmetries}
use Rattle.model.specs.Sheet.{Header, word, header_verdict, scope_at, rows_at, after_at, sets_verdict, constraint_verdict, constraints_verdict, permutes_pairs, symmetries_verdict}
use Rattle.model.specs.Lists.{all, any, both, at, keep, flat, below, same, ascending, rows_ascend}
use Rattle.model.specs.{Verdict.Verdict, Verdict.accepted, Verdict.ask, Verdict.is_accepted, Inner.WellFormed.WellFormed, Inner.WellFormed.GoodSymmetry, Inner.WellFormed.Respected}
use Rattle.model.proofs.OneMore.{after_low, arity, count, after_agree, scope_agree, rows_agree, Agree}
use Rattle.model.proofs.{Lists.of_T, Lists.map_ext, Accepted.HeaderPassed, Accepted.asked}

-- ---- questions that are passed say what is asked after them
-- the header with so many exchanges and bytes
abbrev pub tables_header : Header → ℕ → ℕ → Header
tables_header h tables size = record {
  variables = h.variables;
  values = h.values;
  constraints = h.constraints;
  symmetries = tables;
  first = h.first;
  second = h.second;
  third = h.third;
  size = size;
}

-- where all but question 5 are passed
pub header_but_five : (h : Header) (bytes : ℕ) (later : Verdict) → HeaderPassed (tables_header h 0 h.size) bytes → header_verdict h bytes later ≡ ask (leb h.symmetries 16) 5 0 later
unfolding header_verdict
header_but_five h bytes later q =
    let e1 = le-leb 16 bytes q.long in
    let e2 = ap₂ both (le-leb 1 h.variables q.some) (le-leb h.variables 12 q.few) in
    let e3 = ap₂ both (le-leb 1 h.values q.one) (le-leb h.values 16 q.sixteen) in
    let e4 = le-leb h.constraints 32 q.constraints in
    let e6 = eq-eqb h.size bytes q.whole in
    let e7 = ap₂ both (eq-eqb h.first 16 q.first) (ap₂ both (eq-eqb h.second (16 + 2 * h.variables) q.second)
    (ap₂ both (le-leb h.second h.third q.ordered) (le-leb h.third h.size q.third))) in
    λ j. ask (e1 j) 1 0 (ask (e2 j) 2 0 (ask (e3 j) 3 0 (ask (e4 j) 4 0 (ask (leb h.symmetries 16) 5 0 (ask (e6 j) 6 0 (ask (e7 j) 7 0 later))))))

pub header_passes : (h : Header) (bytes : ℕ) (later : Verdict) → HeaderPassed h bytes → header_verdict h bytes later ≡ later
header_passes h bytes later q =
    header_but_five h bytes later record {
      long = q.long;
      some = q.some;
      few = q.few;
      one = q.one;
      sixteen = q.sixteen;
      constraints = q.constraints;
      symmetries = omega arith;
      whole = q.whole;
      first = q.first;
      second = q.second;
      ordered = q.ordered;
      third = q.third;
    }
    ∙ ap (λ (b : Bool). ask b 5 0 later) (le-leb h.symmetries 16 q.symmetries)

pub sets_pass : (c : List ℕ) (h : Header) (xs : List ℕ) (later : Verdict) → ((x : ℕ) → Memᴰ x xs → (word c (16 + 2 * x) < 2 ^ h.values) × (0 < word c (16 + 2 * x)))
    → sets_verdict c h xs later ≡ later
unfolding sets_verdict
sets_pass c h [] later k = refl
sets_pass c h (x ∷ xs) later k =
    let s = word c (16 + 2 * x) in
    let q = k x (Memᴰ-head refl) in
    let e : both (ltb s (2 ^ h.values)) (not (eqb s 0)) ≡ true = ap₂ both (lt-ltb s (2 ^ h.values) q.0)
    (of_T (not (eqb s 0)) (not_T (eqb s 0) (λ t. let z = eqb→eq s 0 t in let y = q.1 in omega arith))) in
    ap (λ (t : Bool). ask t 8 x (sets_verdict c h xs later)) e ∙ sets_pass c h xs later (λ y m. k y (Memᴰ-tail m))

-- the questions to constraints that stand in both sheets alike
module _ (b c : List ℕ) (h : Header) (g : Agree b c 16 h.third) (tables size : ℕ) where
  pub constraints_pass : (k i o : ℕ) (v w : Verdict) → 16 ≤ o → T (is_accepted (constraints_verdict b h k i o v)) → constraints_verdict c (tables_header h tables size) k i o w ≡ w
  unfolding constraints_verdict constraint_verdict
  constraints_pass zero i o v w low t = ap (λ (q : Bool). ask q 9 i w) (of_T (eqb o h.third) (asked (eqb o h.third) 9 i v t).0)
  constraints_pass (suc k) i o v w low t =
      let q1 = asked (leb (o + 4) h.third) 9 i _ t in
      let q2 = asked (both (both (leb 1 (word b o)) (leb (word b o) 3)) (leb (word b (o + 2)) 256)) 10 i _ q1.1 in
      let q3 = asked (leb (after_at b o) h.third) 9 i _ q2.1 in
      let q4 = asked (both (all (λ x. ltb x h.variables) (scope_at b o)) (ascending (scope_at b o))) 11 i _ q3.1 in
      let q5 = asked (all (all (λ w. ltb w h.values)) (rows_at b o)) 12 i _ q4.1 in
      let q6 = asked (rows_ascend (rows_at b o)) 13 i (constraints_verdict b h k (suc i) (after_at b o) v) q5.1 in
      let head : o + 4 ≤ h.third = leb→le (o + 4) h.third q1.0 in
      let tail : after_at b o ≤ h.third = leb→le (after_at b o) h.third q3.0 in
      let ea = arity b c h.third g o low head tail in
      let ec = count b c h.third g o low head tail in
      let es = scope_agree b c h.third g o low head tail in
      let er = rows_agree b c h.third g o low head tail in
      let ef = after_agree b c h.third g o low head tail in
      let e1 = of_T (leb (o + 4) h.third) q1.0 in
      let e2 = ap₂ (λ (m r : ℕ). both (both (leb 1 m) (leb m 3)) (leb r 256)) ea ec ∙ of_T (both (both (leb 1 (word b o)) (leb (word b o) 3)) (leb (word b (o + 2)) 256)) q2.0 in
      let e3 = ap (λ (z : ℕ). leb z h.third) ef ∙ of_T (leb (after_at b o) h.third) q3.0 in
      let e4 = ap (λ (z : List ℕ). both (all (λ x. ltb x h.variables) z) (ascending z)) es ∙ of_T (both (all (λ x. ltb x h.variables) (scope_at b o)) (ascending (scope_at b o))) q4.0 in
      let e5 = ap (all (all (λ w. ltb w h.values))) er ∙ of_T (all (all (λ w. ltb w h.values)) (rows_at b o)) q5.0 in
      let e6 = ap rows_ascend er ∙ of_T (rows_ascend (rows_at b o)) q6.0 in
      let rest = ap (λ (z : ℕ). constraints_verdict c (tables_header h tables size) k (suc i) z w) ef ∙ constraints_pass k (suc i) (after_at b o) v w (after_low b o low) q6.1 in
      λ j. ask (e1 j) 9 i (ask (e2 j) 10 i (ask (e3 j) 9 i (ask (e4 j) 11 i (ask (e5 j) 12 i (ask (e6 j) 13 i (rest j))))))

-- ---- the questions to the tables
pub symmetries_i : (p : Problem) (i : ℕ) (gs : List (List ℕ)) → ((g : List ℕ) → Memᴰ g gs → T (permutes_pairs p g) × T (respects p g)) → symmetries_verdict p i gs ≡ accepted
unfolding symmetries_verdict
symmetries_i p i [] h = refl
symmetries_i p i (g ∷ gs) h =
    let r = h g (Memᴰ-head refl) in
    ap₂ (λ (b c : Bool). ask b 15 i (ask c 16 i (symmetries_verdict p (suc i) gs))) (of_T (permutes_pairs p g) r.0) (of_T (respects p g) r.1)
    ∙ symmetries_i p (suc i) gs (λ f m. h f (Memᴰ-tail m))

-- the first table that fails decides
pub symmetries_first : (p : Problem) (gs : List (List ℕ)) (i : ℕ) (g : List ℕ) (hs : List (List ℕ)) → ((f : List ℕ) → Memᴰ f gs → T (permutes_pairs p f) × T (respects p f)) →
    symmetries_verdict p i (gs ++ (g ∷ hs)) ≡ ask (permutes_pairs p g) 15 (i + length gs) (ask (respects p g) 16 (i + length gs) (symmetries_verdict p (suc (i + length gs)) hs))
unfolding symmetries_verdict
symmetries_first p [] i g hs h =
    let e : i ≡ i + 0 = omega arith in
    ap (λ (n : ℕ). ask (permutes_pairs p g) 15 n (ask (respects p g) 16 n (symmetries_verdict p (suc n) hs))) e
symmetries_first p (f ∷ gs) i g hs h =
    let r = h f (Memᴰ-head refl) in
    let e : suc i + length gs ≡ i + suc (length gs) = omega arith in
    ap₂ (λ (b c : Bool). ask b 15 i (ask c 16 i (symmetries_verdict p (suc i) (gs ++ (g ∷ hs))))) (of_T (permutes_pairs p f) r.0) (of_T (respects p f) r.1)
    ∙ symmetries_first p gs (suc i) g hs (λ k m. h k (Memᴰ-tail m))
    ∙ ap (λ (n : ℕ). ask (permutes_pairs p g) 15 n (ask (respects p g) 16 n (symmetries_verdict p (suc n) hs))) e

-- ---- the questions do not look at the other symmetries
module _ (p : Problem) (gs : List (List ℕ)) where
  pairs_at_other : (xs vs : List ℕ) → pairs_at (with_symmetries p gs) xs vs ≡ pairs_at p xs vs
  unfolding pairs_at pair
  pairs_at_other [] vs = refl
  pairs_at_other (x ∷ xs) [] = refl
  pairs_at_other (x ∷ xs) (v ∷ vs) = ap (λ (r : List ℕ). (x * p.values + v) ∷ r) (pairs_at_other xs vs)

  excluded_other : (c : Constraint) → excluded (with_symmetries p gs) c ≡ excluded p c
  unfolding excluded
  excluded_other c = map_ext (pairs_at (with_symmetries p gs) c.scope) (pairs_at p c.scope) (keep (λ vs. not (any (same vs) c.rows)) (assignments (map (at p.initial) c.scope)))
      (λ vs m. pairs_at_other c.scope vs)

  forbidden_other : forbidden (with_symmetries p gs) ≡ forbidden p
  unfolding forbidden doubled pair
  forbidden_other = ap (λ (l : List (List (List ℕ))). flat (map (doubled p) (below p.variables)) ++ flat l)
      (map_ext (excluded (with_symmetries p gs)) (excluded p) p.constraints (λ c m. excluded_other c))

  pub good_other : (g : List ℕ) → GoodSymmetry p g → GoodSymmetry (with_symmetries p gs) g
  unfolding permutes_pairs is_pair
  good_other g a = record { sized = a.sized; permutes = a.permutes }

  -- so the problem with other symmetries is as good as these are
  pub well_formed_with : WellFormed p → ((g : List ℕ) → Memᴰ g gs → GoodSymmetry p g) → WellFormed (with_symmetries p gs)
  well_formed_with w h = record {
    some = w.some;
    few = w.few;
    one = w.one;
    sixteen = w.sixteen;
    sized = w.sized;
    nonempty = w.nonempty;
    narrow = w.narrow;
    most = w.most;
    constrained = λ c i. (let g = w.constrained c i in record { some = g.some; few = g.few; inside = g.inside; ordered = g.ordered; sized = g.sized; valued = g.valued });
    symmetric = λ g i. good_other g (h g i);
  }

  pub permutes_same : (g : List ℕ) → permutes_pairs (with_symmetries p gs) g ≡ permutes_pairs p g
  unfolding permutes_pairs is_pair
  permutes_same g = refl

  pub respects_same : (g : List ℕ) → respects (with_symmetries p gs) g ≡ respects p g
  unfolding respects
  respects_same g = ap (λ (fs : List (List ℕ)). all (λ f. any (λ h. within h (map (at g) f)) fs) fs) forbidden_other

  pub respects_other : (g : List ℕ) → T (respects p g) → T (respects (with_symmetries p gs) g)
  respects_other g = subst T (sym (respects_same g))

  pub respected_with : ((g : List ℕ) → Memᴰ g gs → T (respects p g)) → Respected (with_symmetries p gs)
  respected_with h = record { respectful = λ g i. respects_other g (h g i) }
