-- An accepted sheet of that kind is the sheet of its shape and its tables. Assumes nothing.
use Rattle.model.specs.Kit.{◌≡◌, refl, sym, ap, ap₂, ◌∙◌, subst, Bool, true, false, List, [], ◌∷◌, ◌++◌, map, Memᴰ, Memᴰ-map, ℕ, zero, suc, ◌+◌, ◌-◌, ◌*◌, ◌/◌, ◌%◌, ◌^◌, ◌≤◌, ◌<◌, arith, T, leb}
use Rattle.model.specs.Kit.{ltb, eqb, leb→le, eqb→eq, ltb→lt, length, get_or, length-map, ltb-true, ltb-false}
use Rattle.model.specs.Sheet.{word, words, Header, header_of, scope_at, rows_at, after_at, constraints_from, table_at, problem_of, distinct, permutes_pairs, constraints_verdict, verdict_of}
use Rattle.model.specs.Sheet.{constraint_verdict}
use Rattle.model.specs.{Lists.all, Lists.keep, Lists.flat, Lists.up_from, Lists.below, Lists.at, Lists.both, Lists.ascending, Lists.rows_ascend, Bytes.two_bytes, Problem.Problem, Problem.Constraint}
use Rattle.model.specs.{Problem.assignments, Problem.is_pair, ValueSets.has, ValueSets.members, Verdict.Verdict, Verdict.is_accepted, Inner.WellFormed.GoodSymmetry}
use Rattle.model.proofs.Lists.{all_e, below_i, up_from_i, length_below, flat_i, keep_i, both_l, both_r}
use Rattle.model.proofs.{Assignments.assign_i, Accepted.Passed, Accepted.asked, Accepted.length_words, Accepted.at_words, Accepted.passed, Accepted.is_accepted_lem, Accepted.length_constraints}
use Rattle.sheet.proofs.Words.{map_all_e, words_all_e}
use Rattle.sheet_once.specs.Held.{IsSmall}
use Rattle.sheet_small.specs.Small.{Shape, shapes, tables, rows_of, front_of, sheet_of}
use Rattle.sheet_small.proofs.Lists.{tested}
use Rattle.sheet_once.proofs.{Words.words_append, Words.flat_words, Words.bytes_of, RowSets.row_no, RowSets.rows_set}

-- what the questions leave of the one constraint
record Asked (b : List ℕ) (h : Header) : Type 0 where
  pub ends : after_at b 20 ≡ h.third
  pub values : T (all (all (λ w. ltb w h.values)) (rows_at b 20))
  pub ascend : T (rows_ascend (rows_at b 20))

constraint_asked : (b : List ℕ) (h : Header) (v : Verdict) → T (is_accepted (constraints_verdict b h 1 0 20 v)) → Asked b h
unfolding constraint_verdict constraints_verdict
constraint_asked b h v t =
    let q1 = asked (leb (20 + 4) h.third) 9 0 _ t in
    let q2 = asked (both (both (leb 1 (word b 20)) (leb (word b 20) 3)) (leb (word b 22) 256)) 10 0 _ q1.1 in
    let q3 = asked (leb (after_at b 20) h.third) 9 0 _ q2.1 in
    let q4 = asked (both (all (λ x. ltb x h.variables) (scope_at b 20)) (ascending (scope_at b 20))) 11 0 _ q3.1 in
    let q5 = asked (all (all (λ w. ltb w h.values)) (rows_at b 20)) 12 0 _ q4.1 in
    let q6 = asked (rows_ascend (rows_at b 20)) 13 0 _ q5.1 in
    let q7 = asked (eqb (after_at b 20) h.third) 9 1 v q6.1 in
    record { ends = eqb→eq (after_at b 20) h.third q7.0; values = q5.0; ascend = q6.0 }

-- a table that permutes the pairs has numbers of the table's size, each once
abbrev in_place : Problem → List ℕ → ℕ → Bool
in_place p g q = elim (is_pair p q) [ true ↦ is_pair p (at g q) | false ↦ eqb (at g q) q ]

permuted : (p : Problem) (g : List ℕ) → T (permutes_pairs p g) → ((q : ℕ) → q < p.variables * p.values → at g q < p.variables * p.values) × T (distinct g)
unfolding permutes_pairs is_pair
permuted p g t = (
  λ q h. go q h (is_pair p q) (all_e (in_place p g) (below (p.variables * p.values)) (both_l (all (in_place p g) (below (p.variables * p.values))) (distinct g) t) q
      (below_i (p.variables * p.values) q h)),
  both_r (all (in_place p g) (below (p.variables * p.values))) (distinct g) t,
)
  where
    go : (q : ℕ) → q < p.variables * p.values → (c : Bool) → T (elim c [ true ↦ is_pair p (at g q) | false ↦ eqb (at g q) q ]) → at g q < p.variables * p.values
    go q h true u = ltb→lt (at g q) (p.variables * p.values) (both_l (ltb (at g q) (p.variables * p.values)) (has (at p.initial (at g q / p.values)) (at g q % p.values)) u)
    go q h false u = let e = eqb→eq (at g q) q u in omega arith

-- numbers below 256, one by one
abbrev Low : List ℕ → Type 0
Low [] = Unit {0}
Low (x ∷ l) = (x < 256) × Low l

low_at : (l : List ℕ) → Low l → (i : ℕ) → at l i < 256
unfolding at
low_at [] a i = omega arith
low_at (x ∷ l) a zero = a.0
low_at (x ∷ l) a (suc i) = low_at l a.1 i

row_test : all (λ m. leb (length (rows_of m)) 4) (below 16) ≡ true
unfolding all rows_of members keep has below up_from
row_test = refl

row_count : (m : ℕ) → m < 16 → length (rows_of m) ≤ 4
row_count m h = leb→le (length (rows_of m)) 4 (tested (λ m. leb (length (rows_of m)) 4) 16 row_test m h)

-- numbers below 4 are drawn from four sets of them
drawn : (q v : ℕ) → q < 4 → v < 4 → Memᴰ v (members (at (15 ∷ 15 ∷ 15 ∷ 15 ∷ []) q))
unfolding at members keep has below up_from
drawn zero v h k = below_i 4 v k
drawn (suc zero) v h k = below_i 4 v k
drawn (suc (suc zero)) v h k = below_i 4 v k
drawn (suc (suc (suc zero))) v h k = below_i 4 v k
drawn (suc (suc (suc (suc q)))) v h k = absurd (omega arith)

module _ (b : List ℕ) (s : IsSmall b) where
  pub accepts : T (is_accepted (verdict_of b))
  accepts = is_accepted_lem (verdict_of b) s.accepts

  p : Passed b
  p = passed b accepts

  -- ---- the numbers before the rows
  pub variables : word b 0 ≡ 2
  unfolding problem_of header_of
  variables = s.variables

  pub values : word b 2 ≡ 2
  unfolding problem_of header_of
  values = s.values

  first : word b 8 ≡ 16
  unfolding header_of
  first = p.header.first

  second : word b 10 ≡ 20
  unfolding header_of
  second = omega (arith, p.header.second, variables)

  constraints : word b 4 ≡ 1
  unfolding problem_of header_of
  constraints = sym (length_constraints b (word b 4) (word b 10)) ∙ sym (length-map (constraints_from b (word b 4) (word b 10)) (λ (c : Constraint). c.scope)) ∙ ap length s.constraint

  scope : words b 24 (word b 20) ≡ 0 ∷ 1 ∷ []
  unfolding problem_of header_of constraints_from scope_at
  scope = ap (λ (l : List (List ℕ)). get_or l 0 []) (sym (ap₂ (λ (k o : ℕ). map (λ (c : Constraint). c.scope) (constraints_from b k o)) constraints second) ∙ s.constraint)

  arity : word b 20 ≡ 2
  arity = sym (length_words b 24 (word b 20)) ∙ ap length scope

  left : word b 24 ≡ 0
  unfolding at
  left = sym (at_words b 24 (word b 20) 0 (omega (arith, arity))) ∙ ap (λ (l : List ℕ). get_or l 0 0) scope

  right : word b 26 ≡ 1
  unfolding at
  right = sym (at_words b 24 (word b 20) 1 (omega (arith, arity))) ∙ ap (λ (l : List ℕ). get_or l 1 0) scope

  -- ---- the rows
  questions : Asked b (header_of b)
  unfolding header_of
  questions =
      let w = p.walked in
      constraint_asked b (header_of b) w.0 (subst (λ (k : ℕ). T (is_accepted (constraints_verdict b (header_of b) k 0 20 w.0))) constraints
      (subst (λ (o : ℕ). T (is_accepted (constraints_verdict b (header_of b) (word b 4) 0 o w.0))) second w.1))

  row : ℕ → List ℕ
  row i = words b (28 + 2 * (i * 2)) 2

  rows : rows_at b 20 ≡ map row (below (word b 22))
  unfolding rows_at row
  rows = ap (λ (a : ℕ). map (λ i. words b (20 + 4 + 2 * a + 2 * (i * a)) a) (below (word b 22))) arity

  third : word b 12 ≡ 28 + 4 * word b 22
  unfolding header_of after_at
  third =
      let e : 20 + 4 + 2 * word b 20 + 2 * (word b 22 * word b 20) ≡ 20 + 4 + 2 * 2 + 2 * (word b 22 * 2) = ap (λ (a : ℕ). 20 + 4 + 2 * a + 2 * (word b 22 * a)) arity in
      omega (arith, e, questions.ends)

  size : word b 14 ≡ 28 + 4 * word b 22 + 8 * word b 6
  unfolding header_of
  size =
      let e : 2 * (word b 6 * (word b 0 * word b 2)) ≡ 2 * (word b 6 * 4) = ap₂ (λ (x y : ℕ). 2 * (word b 6 * (x * y))) variables values in
      omega (arith, e, p.fits, third)

  value : (i : ℕ) → i < word b 22 → (j : ℕ) → j < 2 → word b (28 + 2 * (i * 2) + 2 * j) < 2
  unfolding header_of row
  value i h j k =
      let t = subst (λ (l : List (List ℕ)). T (all (all (λ w. ltb w (word b 2))) l)) rows questions.values in
      subst (λ (d : ℕ). word b (28 + 2 * (i * 2) + 2 * j) < d) values
      (ltb→lt (word b (28 + 2 * (i * 2) + 2 * j)) (word b 2) (words_all_e (λ w. ltb w (word b 2)) b (28 + 2 * (i * 2)) 2 (map_all_e (all (λ w. ltb w (word b 2))) row (word b 22) t i h) j k))

  -- the number of a row
  code : ℕ → ℕ
  code i = 2 * word b (28 + 2 * (i * 2) + 2 * 0) + word b (28 + 2 * (i * 2) + 2 * 1)

  row_code : (i : ℕ) → i < word b 22 → (code i < 4) × (row_no (code i) ≡ row i)
  unfolding code row words below up_from
  row_code i h =
      let x = word b (28 + 2 * (i * 2) + 2 * 0) in
      let y = word b (28 + 2 * (i * 2) + 2 * 1) in
      let k = value i h 0 (omega arith) in
      let l = value i h 1 (omega arith) in
      let e : (2 * x + y) / 2 ≡ x = omega arith in
      let f : (2 * x + y) % 2 ≡ y = omega arith in
      (omega arith, ap₂ (λ (v w : ℕ). v ∷ w ∷ []) e f)

  set : (m : ℕ) × (m < 16) × (rows_of m ≡ map row (below (word b 22)))
  set = rows_set row code (word b 22) row_code (subst (λ (l : List (List ℕ)). T (rows_ascend l)) rows questions.ascend)

  -- ---- the tables
  symmetries : length (problem_of b).symmetries ≡ word b 6
  unfolding problem_of header_of
  symmetries = length_below (table_at b (header_of b)) (word b 6)

  few : word b 6 ≤ 1
  few = omega (arith, symmetries, s.symmetry)

  tables_read : flat (problem_of b).symmetries ≡ words b (28 + 2 * (word b 22 * 2)) (word b 6 * 4)
  unfolding problem_of header_of table_at
  tables_read =
      let e : word b 12 ≡ 28 + 2 * (word b 22 * 2) = omega (arith, third) in
      flat_words b (word b 12) (word b 0 * word b 2) (word b 6)
      ∙ ap₂ (λ (o k : ℕ). words b o (word b 6 * k)) e (ap₂ (λ (x y : ℕ). x * y) variables values)

  -- ---- all numbers
  pub shape : Shape
  shape = record { first = word b 16; second = word b 18; rows = set.0 }

  head_words : words b 0 14 ≡ word b 0 ∷ word b 2 ∷ word b 4 ∷ word b 6 ∷ word b 8 ∷ word b 10 ∷ word b 12 ∷ word b 14 ∷ word b 16 ∷ word b 18 ∷ word b 20 ∷ word b 22 ∷ word b 24 ∷ word b 26 ∷ []
  unfolding words below up_from
  head_words = refl

  numbers : words b 0 (14 + (word b 22 * 2 + word b 6 * 4)) ≡ front_of shape (length (problem_of b).symmetries) ++ flat (problem_of b).symmetries
  unfolding shape front_of row
  numbers =
      let m = set.0 in
      let gs = (problem_of b).symmetries in
      let r : word b 22 ≡ length (rows_of m) = sym (ap length set.2 ∙ length_below row (word b 22)) in
      let g : word b 6 ≡ length gs = sym symmetries in
      let t : word b 12 ≡ 28 + 4 * length (rows_of m) = omega (arith, third, r) in
      let z : word b 14 ≡ 28 + 4 * length (rows_of m) + 8 * length gs = omega (arith, size, r, g) in
      let known : words b 0 14 ≡ 2 ∷ 2 ∷ 1 ∷ length gs ∷ 16 ∷ 20 ∷ (28 + 4 * length (rows_of m)) ∷ (28 + 4 * length (rows_of m) + 8 * length gs) ∷ word b 16 ∷ word b 18 ∷ 2 ∷ length
      (rows_of m) ∷ 0 ∷ 1 ∷ [] = cc (head_words, variables, values, constraints, first, second, arity, left, right) in
      words_append b 0 14 (word b 22 * 2 + word b 6 * 4)
      ∙ ap₂ (λ (x y : List ℕ). x ++ y) known
      (words_append b 28 (word b 22 * 2) (word b 6 * 4) ∙ ap₂ (λ (x y : List ℕ). x ++ y) (sym (ap flat set.2 ∙ flat_words b 28 2 (word b 22))) (sym tables_read))

  -- ---- a table has the numbers below 4, each once
  module _ (g : List ℕ) (m : Memᴰ g (problem_of b).symmetries) where
    good : GoodSymmetry (problem_of b) g
    good = p.well.symmetric g m

    four : (problem_of b).variables * (problem_of b).values ≡ 4
    four = ap₂ (λ (x y : ℕ). x * y) s.variables s.values

    entry : (q : ℕ) → q < 4 → at g q < 4
    entry q h = omega (arith, four, (permuted (problem_of b) g good.permutes).0 q (omega (arith, four)))

    pub in_tables : Memᴰ g tables
    unfolding tables
    in_tables =
        keep_i distinct (assignments (15 ∷ 15 ∷ 15 ∷ 15 ∷ [])) g
        (assign_i (15 ∷ 15 ∷ 15 ∷ 15 ∷ []) g (good.sized ∙ four) (λ q h. drawn q (at g q) h (entry q h)))
        (permuted (problem_of b) g good.permutes).1

  -- ---- the sets
  set_range : (x : ℕ) → x < 2 → (0 < word b (16 + 2 * x)) × (word b (16 + 2 * x) < 4)
  unfolding problem_of header_of
  set_range x h =
      let e : at (words b 16 (word b 0)) x ≡ word b (16 + 2 * x) = at_words b 16 (word b 0) x (omega (arith, variables)) in
      let d : 2 ^ word b 2 ≡ 4 = ap (λ (k : ℕ). 2 ^ k) values in
      (omega (arith, e, p.well.nonempty x (omega (arith, variables))), omega (arith, e, d, p.well.narrow x (omega (arith, variables))))

  pub in_shapes : Memᴰ shape shapes
  unfolding shapes shape
  in_shapes =
      flat_i _ _ _ (Memᴰ-map (λ s. flat (map (λ t. map (λ r. record { first = s; second = t; rows = r }) (below 16)) (up_from 1 3)))
      (up_from_i 1 3 (word b 16) (set_range 0 (omega arith)).0 (set_range 0 (omega arith)).1))
      (flat_i _ _ _ (Memᴰ-map (λ t. map (λ r. record { first = word b 16; second = t; rows = r }) (below 16))
      (up_from_i 1 3 (word b 18) (set_range 1 (omega arith)).0 (set_range 1 (omega arith)).1))
      (Memᴰ-map (λ r. record { first = word b 16; second = word b 18; rows = r }) (below_i 16 set.0 set.1)))

  -- ---- every number is below 256
  few_rows : word b 22 ≤ 4
  few_rows = omega (arith, length_below row (word b 22), ap length set.2, row_count set.0 set.1)

  low_head : (i : ℕ) → i < 14 → word b (0 + 2 * i) < 256
  low_head i h =
      let l = word b 0 ∷ word b 2 ∷ word b 4 ∷ word b 6 ∷ word b 8 ∷ word b 10 ∷ word b 12 ∷ word b 14 ∷ word b 16 ∷ word b 18 ∷ word b 20 ∷ word b 22 ∷ word b 24 ∷ word b 26 ∷ [] in
      let all : Low l = omega (arith, variables, values, constraints, first, second, third, size, few, few_rows, arity, left, right, (set_range 0 (omega arith)).1, (set_range 1 (omega arith)).1) in
      subst (λ (v : ℕ). v < 256) (ap (λ (l : List ℕ). at l i) (sym head_words) ∙ at_words b 0 14 i h) (low_at l all i)

  low_row : (i : ℕ) → i < word b 22 * 2 → word b (28 + 2 * i) < 256
  low_row i h =
      let e : 28 + 2 * (i / 2 * 2) + 2 * (i % 2) ≡ 28 + 2 * i = omega arith in
      omega (arith, value (i / 2) (omega arith) (i % 2) (omega arith), ap (word b) e)

  low_table : (i : ℕ) → i < word b 6 * 4 → word b (28 + 4 * word b 22 + 2 * i) < 256
  unfolding problem_of header_of table_at
  low_table i h =
      let k : i < 4 = omega (arith, few) in
      let nd : word b 0 * word b 2 ≡ 4 = ap₂ (λ (x y : ℕ). x * y) variables values in
      let o : word b 12 + 2 * (0 * (word b 0 * word b 2)) + 2 * i ≡ 28 + 4 * word b 22 + 2 * i = omega (arith, third) in
      let m = Memᴰ-map (table_at b (header_of b)) (below_i (word b 6) 0 (omega arith)) in
      omega (arith, entry (table_at b (header_of b) 0) m i k, at_words b (word b 12 + 2 * (0 * (word b 0 * word b 2))) (word b 0 * word b 2) i (omega (arith, nd)), ap (word b) o)

  low : (i : ℕ) → i < 14 + (word b 22 * 2 + word b 6 * 4) → word b (0 + 2 * i) < 256
  low i h = go (ltb i 14) refl (ltb i (14 + word b 22 * 2)) refl
    where
      go : (u : Bool) → ltb i 14 ≡ u → (v : Bool) → ltb i (14 + word b 22 * 2) ≡ v → word b (0 + 2 * i) < 256
      go true e v f = low_head i (ltb-true i 14 e)
      go false e true f =
          let k = ltb-false i 14 e in
          let l = ltb-true i (14 + word b 22 * 2) f in
          let o : 28 + 2 * (i - 14) ≡ 0 + 2 * i = omega arith in
          omega (arith, low_row (i - 14) (omega arith), ap (word b) o)
      go false e false f =
          let k = ltb-false i (14 + word b 22 * 2) f in
          let o : 28 + 4 * word b 22 + 2 * (i - (14 + word b 22 * 2)) ≡ 0 + 2 * i = omega arith in
          omega (arith, low_table (i - (14 + word b 22 * 2)) (omega arith), ap (word b) o)

  pub is_sheet_lem : b ≡ sheet_of shape (problem_of b).symmetries
  unfolding sheet_of header_of
  is_sheet_lem = bytes_of (14 + (word b 22 * 2 + word b 6 * 4)) b (omega (arith, p.header.whole, size)) low ∙ ap (λ (l : List ℕ). flat (map two_bytes l)) numbers

  pub short : length b ≤ 52
  unfolding header_of
  short = omega (arith, p.header.whole, size, few_rows, few)
