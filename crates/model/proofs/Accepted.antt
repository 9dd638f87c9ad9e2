-- What the questions show: the problem that an accepted sheet states is well formed. Assumes nothing.
use Rattle.model.specs.Kit.{◌≡◌, refl, sym, ap, ◌∙◌, subst, Bool, true, false, not, List, [], ◌∷◌, Memᴰ, Memᴰ-not_nil, Memᴰ-cases_cons, Memᴰ-of_map, ⊎_elim, ℕ, zero, suc, ◌+◌}
use Rattle.model.specs.Kit.{◌*◌, ◌^◌, ◌≤◌, ◌<◌, arith, T, T_not, leb, ltb, eqb, leb→le, ltb→lt, eqb→eq, length, eq-eqb}
use Rattle.model.specs.Sheet.{Header, word, words, header_of, header_verdict, offsets_fit, sets_verdict, scope_at, rows_at, after_at, constraint_verdict, constraints_verdict, constraints_from}
use Rattle.model.specs.Sheet.{table_at}
use Rattle.model.specs.Sheet.{problem_of, permutes_pairs, tables_fit, form_verdict, symmetries_verdict, verdict_of}
use Rattle.model.specs.{Lists.all, Lists.both, Lists.below, Lists.at, Lists.ascending, Lists.rows_ascend, Problem.Problem, Problem.Constraint, Problem.respects, Verdict.Verdict, Verdict.accepted}
use Rattle.model.specs.{Verdict.refused, Verdict.ask, Verdict.is_accepted, Search.nodes, Search.nodes_below, Inner.WellFormed.WellFormed, Inner.WellFormed.Stated, Inner.WellFormed.GoodConstraint}
use Rattle.model.specs.Inner.WellFormed.{Respected}
use Rattle.model.proofs.Lists.{both_l, both_r, T_of, all_e, below_i, length_below, at_below}

-- a question that was passed
pub asked : (c : Bool) (n i : ℕ) (v : Verdict) → T (is_accepted (ask c n i v)) → T c × T (is_accepted v)
asked true n i v h = (tt, h)
asked false n i v h = absurd h

pub length_words : (b : List ℕ) (o k : ℕ) → length (words b o k) ≡ k
unfolding words
length_words b o k = length_below (λ i. word b (o + 2 * i)) k

pub at_words : (b : List ℕ) (o k i : ℕ) → i < k → at (words b o k) i ≡ word b (o + 2 * i)
unfolding words
at_words b o k i h = at_below (λ i. word b (o + 2 * i)) k i h

range : (low x high : ℕ) → T (both (leb low x) (leb x high)) → (low ≤ x) × (x ≤ high)
range low x high t = (leb→le low x (both_l (leb low x) (leb x high) t), leb→le x high (both_r (leb low x) (leb x high) t))

-- questions 1 to 7
pub record HeaderPassed (h : Header) (bytes : ℕ) : Type 0 where
  pub long : 16 ≤ bytes
  pub some : 1 ≤ h.variables
  pub few : h.variables ≤ 12
  pub one : 1 ≤ h.values
  pub sixteen : h.values ≤ 16
  pub constraints : h.constraints ≤ 32
  pub symmetries : h.symmetries ≤ 16
  pub whole : h.size ≡ bytes
  pub first : h.first ≡ 16
  pub second : h.second ≡ 16 + 2 * h.variables
  pub ordered : h.second ≤ h.third
  pub third : h.third ≤ h.size

pub header_e : (h : Header) (bytes : ℕ) (later : Verdict) → T (is_accepted (header_verdict h bytes later)) → HeaderPassed h bytes × T (is_accepted later)
unfolding header_verdict
header_e h bytes later t =
    let q1 = asked (leb 16 bytes) 1 0 _ t in
    let q2 = asked (both (leb 1 h.variables) (leb h.variables 12)) 2 0 _ q1.1 in
    let q3 = asked (both (leb 1 h.values) (leb h.values 16)) 3 0 _ q2.1 in
    let q4 = asked (leb h.constraints 32) 4 0 _ q3.1 in
    let q5 = asked (leb h.symmetries 16) 5 0 _ q4.1 in
    let q6 = asked (eqb h.size bytes) 6 0 _ q5.1 in
    let q7 = asked (offsets_fit h) 7 0 later q6.1 in
    let n = range 1 h.variables 12 q2.0 in
    let d = range 1 h.values 16 q3.0 in
    let second = eqb h.second (16 + 2 * h.variables) in
    let third = both (leb h.second h.third) (leb h.third h.size) in
    let places = both_r (eqb h.first 16) (both second third) q7.0 in
    let between = range h.second h.third h.size (both_r second third places) in
    let r : HeaderPassed h bytes = record {
      long = leb→le 16 bytes q1.0;
      some = n.0;
      few = n.1;
      one = d.0;
      sixteen = d.1;
      constraints = leb→le h.constraints 32 q4.0;
      symmetries = leb→le h.symmetries 16 q5.0;
      whole = eqb→eq h.size bytes q6.0;
      first = eqb→eq h.first 16 (both_l (eqb h.first 16) (both second third) q7.0);
      second = eqb→eq h.second (16 + 2 * h.variables) (both_l second third places);
      ordered = between.0;
      third = between.1;
    } in
    (r, q7.1)

-- a problem has as many constraints and symmetries as the header says
pub length_constraints : (b : List ℕ) (k o : ℕ) → length (constraints_from b k o) ≡ k
unfolding constraints_from
length_constraints b zero o = refl
length_constraints b (suc k) o = ap suc (length_constraints b k (after_at b o))

pub constraints_are : (b : List ℕ) → length (problem_of b).constraints ≡ (header_of b).constraints
unfolding problem_of
constraints_are b = length_constraints b (header_of b).constraints (header_of b).second

pub symmetries_are : (b : List ℕ) → length (problem_of b).symmetries ≡ (header_of b).symmetries
unfolding problem_of
symmetries_are b = length_below (table_at b (header_of b)) (header_of b).symmetries

-- question 8
pub positive : (s : ℕ) → T (not (eqb s 0)) → 0 < s
positive zero t = absurd (T_not (eqb 0 0) t (T_of (eqb 0 0) (eq-eqb 0 0 refl)))
positive (suc s) t = omega arith

pub sets_e : (b : List ℕ) (h : Header) (xs : List ℕ) (v : Verdict) → T (is_accepted (sets_verdict b h xs v))
    → ((x : ℕ) → Memᴰ x xs → (word b (16 + 2 * x) < 2 ^ h.values) × (0 < word b (16 + 2 * x))) × T (is_accepted v)
unfolding sets_verdict
sets_e b h [] v t = (λ x m. absurd (Memᴰ-not_nil m), t)
sets_e b h (y ∷ ys) v t =
    let narrow = ltb (word b (16 + 2 * y)) (2 ^ h.values) in
    let some = not (eqb (word b (16 + 2 * y)) 0) in
    let r = asked (both narrow some) 8 y (sets_verdict b h ys v) t in
    let ih = sets_e b h ys v r.1 in (
      λ x m. ⊎_elim {C = (word b (16 + 2 * x) < 2 ^ h.values) × (0 < word b (16 + 2 * x))}
          (λ e. subst (λ (z : ℕ). (word b (16 + 2 * z) < 2 ^ h.values) × (0 < word b (16 + 2 * z))) (sym e)
          (ltb→lt (word b (16 + 2 * y)) (2 ^ h.values) (both_l narrow some r.0), positive (word b (16 + 2 * y)) (both_r narrow some r.0)))
          (ih.0 x) (Memᴰ-cases_cons m),
      ih.1,
    )

-- questions 9 to 13, for one constraint
pub record ConstraintPassed (b : List ℕ) (h : Header) (o : ℕ) : Type 0 where
  pub head : o + 4 ≤ h.third
  pub counts : T (both (both (leb 1 (word b o)) (leb (word b o) 3)) (leb (word b (o + 2)) 256))
  pub tail : after_at b o ≤ h.third
  pub scoped : T (both (all (λ x. ltb x h.variables) (scope_at b o)) (ascending (scope_at b o)))
  pub valued : T (all (all (λ w. ltb w h.values)) (rows_at b o))

pub constraint_asked : (b : List ℕ) (h : Header) (i o : ℕ) (v : Verdict) → T (is_accepted (constraint_verdict b h i o v)) → ConstraintPassed b h o × T (is_accepted v)
unfolding constraint_verdict
constraint_asked b h i o v t =
    let q1 = asked (leb (o + 4) h.third) 9 i _ t in
    let q2 = asked (both (both (leb 1 (word b o)) (leb (word b o) 3)) (leb (word b (o + 2)) 256)) 10 i _ q1.1 in
    let q3 = asked (leb (after_at b o) h.third) 9 i _ q2.1 in
    let q4 = asked (both (all (λ x. ltb x h.variables) (scope_at b o)) (ascending (scope_at b o))) 11 i _ q3.1 in
    let q5 = asked (all (all (λ w. ltb w h.values)) (rows_at b o)) 12 i _ q4.1 in
    let q6 = asked (rows_ascend (rows_at b o)) 13 i v q5.1 in
    let r : ConstraintPassed b h o = record {
      head = leb→le (o + 4) h.third q1.0;
      counts = q2.0;
      tail = leb→le (after_at b o) h.third q3.0;
      scoped = q4.0;
      valued = q5.0;
    } in
    (r, q6.1)

module _ (p : Problem) (b : List ℕ) (h : Header) (en : h.variables ≡ p.variables) (ed : h.values ≡ p.values) where
  constraint_e : (o : ℕ) → T (both (both (leb 1 (word b o)) (leb (word b o) 3)) (leb (word b (o + 2)) 256))
      → T (both (all (λ x. ltb x h.variables) (scope_at b o)) (ascending (scope_at b o))) → T (all (all (λ w. ltb w h.values)) (rows_at b o))
      → GoodConstraint p (record { scope = scope_at b o; rows = rows_at b o })
  unfolding scope_at rows_at
  constraint_e o t s r =
      let a = word b o in
      let e : length (scope_at b o) ≡ a = length_words b (o + 4) a in
      let one = both_l (both (leb 1 a) (leb a 3)) (leb (word b (o + 2)) 256) t in
      let low : 1 ≤ a = leb→le 1 a (both_l (leb 1 a) (leb a 3) one) in
      let high : a ≤ 3 = leb→le a 3 (both_r (leb 1 a) (leb a 3) one) in
      let sizes : (l : List ℕ) → Memᴰ l (rows_at b o) → length l ≡ length (scope_at b o) = λ l m. (let q = Memᴰ-of_map (λ i. words b (o + 4 + 2 * a + 2 * (i * a)) a) (below (word b (o + 2))) m in
      ap length (sym q.2) ∙ length_words b (o + 4 + 2 * a + 2 * (q.0 * a)) a ∙ sym e) in
      record {
        some = omega arith;
        few = omega arith;
        inside = λ x m. subst (λ (n : ℕ). x < n) en (ltb→lt x h.variables (all_e (λ x. ltb x h.variables) (scope_at b o)
            (both_l (all (λ x. ltb x h.variables) (scope_at b o)) (ascending (scope_at b o)) s) x m));
        ordered = both_r (all (λ x. ltb x h.variables) (scope_at b o)) (ascending (scope_at b o)) s;
        sized = sizes;
        valued = λ l m v k. subst (λ (d : ℕ). v < d) ed (ltb→lt v h.values (all_e (λ w. ltb w h.values) l (all_e (all (λ w. ltb w h.values)) (rows_at b o) r l m) v k));
      }

  pub constraints_e : (k i o : ℕ) (v : Verdict) → T (is_accepted (constraints_verdict b h k i o v)) → ((c : Constraint) → Memᴰ c (constraints_from b k o) → GoodConstraint p c) × T (is_accepted v)
  unfolding constraints_verdict constraints_from
  constraints_e zero i o v t = (λ c m. absurd (Memᴰ-not_nil m), (asked (eqb o h.third) 9 i v t).1)
  constraints_e (suc k) i o v t =
      let q = constraint_asked b h i o (constraints_verdict b h k (suc i) (after_at b o) v) t in
      let ih = constraints_e k (suc i) (after_at b o) v q.1 in
      (λ c m. ⊎_elim {C = GoodConstraint p c} (λ e. subst (GoodConstraint p) (sym e) (constraint_e o q.0.counts q.0.scoped q.0.valued)) (ih.0 c) (Memᴰ-cases_cons m), ih.1)

pub symmetries_e : (p : Problem) (i : ℕ) (gs : List (List ℕ)) → T (is_accepted (symmetries_verdict p i gs)) → (g : List ℕ) → Memᴰ g gs → T (permutes_pairs p g) × T (respects p g)
unfolding symmetries_verdict
symmetries_e p i [] t g m = absurd (Memᴰ-not_nil m)
symmetries_e p i (f ∷ gs) t g m =
    let q1 = asked (permutes_pairs p f) 15 i _ t in
    let q2 = asked (respects p f) 16 i (symmetries_verdict p (suc i) gs) q1.1 in
    ⊎_elim {C = T (permutes_pairs p g) × T (respects p g)} (λ e. subst (λ (l : List ℕ). T (permutes_pairs p l) × T (respects p l)) (sym e) (q1.0, q2.0)) (symmetries_e p (suc i) gs q2.1 g)
    (Memᴰ-cases_cons m)

-- ---- the whole sheet
pub record Passed (b : List ℕ) : Type 0 where
  pub header : HeaderPassed (header_of b) (length b)
  pub fits : (header_of b).size ≡ (header_of b).third + 2 * ((header_of b).symmetries * ((header_of b).variables * (header_of b).values))
  -- what the questions on the constraints were asked of
  pub walked : (v : Verdict) × T (is_accepted (constraints_verdict b (header_of b) (header_of b).constraints 0 (header_of b).second v))
  pub well : WellFormed (problem_of b)
  pub respected : Respected (problem_of b)

pub passed : (b : List ℕ) → T (is_accepted (verdict_of b)) → Passed b
unfolding verdict_of form_verdict problem_of table_at
passed b t =
    let h = header_of b in
    let n = h.variables in
    let d = h.values in
    let p = problem_of b in
    let ends = ask (tables_fit h) 14 0 (symmetries_verdict p 0 p.symmetries) in
    let q7 = header_e h (length b) (sets_verdict b h (below n) (constraints_verdict b h h.constraints 0 h.second ends)) t in
    let q8 = sets_e b h (below n) (constraints_verdict b h h.constraints 0 h.second ends) q7.1 in
    let q9 = constraints_e p b h refl refl h.constraints 0 h.second ends q8.1 in
    let q14 = asked (tables_fit h) 14 0 (symmetries_verdict p 0 p.symmetries) q9.1 in
    let q15 = symmetries_e p 0 p.symmetries q14.1 in
    record {
      header = q7.0;
      fits = eqb→eq h.size (h.third + 2 * (h.symmetries * (n * d))) q14.0;
      walked = (ends, q8.1);
      well = record {
        some = q7.0.some;
        few = q7.0.few;
        one = q7.0.one;
        sixteen = q7.0.sixteen;
        sized = length_words b 16 n;
        nonempty = λ x l. subst (λ (s : ℕ). 0 < s) (sym (at_words b 16 n x l)) (q8.0 x (below_i n x l)).1;
        narrow = λ x l. subst (λ (s : ℕ). s < 2 ^ d) (sym (at_words b 16 n x l)) (q8.0 x (below_i n x l)).0;
        most = omega (arith, constraints_are b, q7.0.constraints);
        constrained = q9.0;
        symmetric = λ g m. record {
          sized = (let r = Memᴰ-of_map (table_at b h) (below h.symmetries) m in ap length (sym r.2) ∙ length_words b (h.third + 2 * (r.0 * (n * d))) (n * d));
          permutes = (q15 g m).0;
        };
      };
      respected = record { respectful = λ g m. (q15 g m).1 };
    }

pub stated : {p : Problem} → WellFormed p → Stated p
stated w = record { few = w.few; one = w.one; sixteen = w.sixteen; narrow = w.narrow; most = w.most; constrained = w.constrained }

pub well_formed_lem : (b : List ℕ) → T (is_accepted (verdict_of b)) → WellFormed (problem_of b)
well_formed_lem b t = (passed b t).well

pub accepted_is : (v : Verdict) → T (is_accepted v) → v ≡ accepted
accepted_is accepted t = refl
accepted_is (refused number item) t = absurd t

pub is_accepted_lem : (v : Verdict) → v ≡ accepted → T (is_accepted v)
is_accepted_lem v e = subst (λ (w : Verdict). T (is_accepted w)) (sym e) tt

pub no_nodes_lem : nodes (problem_of []) ≡ []
unfolding nodes nodes_below problem_of header_of «word» at
no_nodes_lem = refl
