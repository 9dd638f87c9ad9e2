-- The numbers and the support sets of a sheet that passed questions 1 to 14. Assumes nothing.
use Rattle.model.specs.Kit.{◌≡◌, sym, ap, ap₂, ◌∙◌, subst, Bool, List, [], ◌∷◌, ◌++◌, map, ℕ, suc, ◌+◌, ◌*◌, ◌/◌, ◌%◌, ◌^◌, ◌<◌, arith, eqb, length, set, length-set, lt-ltb}
use Rattle.model.specs.{Lists.at, Lists.both, Lists.either, Lists.any, Lists.below, Lists.same, ValueSets.has, ValueSets.mask_of, Problem.Constraint, Problem.constraint_at, Sheet.header_of}
use Rattle.model.specs.{Sheet.word}
use Rattle.model.specs.{Sheet.scope_at, Sheet.rows_at, Sheet.problem_of, Sheet.table_at}
use Rattle.model.proofs.{Lists.length_below, Lists.at_set, Lists.at_set_other, Sets.has_none, Accepted.length_words, Accepted.at_words, Accepted.length_constraints}
use Rattle.arrays.specs.{Inner.Layout.Numbers, Inner.Layout.Supports, Inner.Layout.place, Inner.Places.SUPPORTS, Inner.Places.NUMBERS}
use Rattle.sheet.specs.{Inner.Parts.Fit, Inner.Parts.AllSets, Inner.Steps.offset_at, Inner.Steps.numbers_to, Inner.Steps.supports_to, Inner.Form.counted}
use Rattle.sheet.proofs.{Touch.Good, Touch.Held, Touch.held, Touch.packed_arity, Touch.packed_at, Backing.Backed, Backing.backed, Backing.set_of_rows, Passed.constraint_at_lem}

-- ---- the four counts
module _ (n d c g : ℕ) (l : List ℕ) (long : length l ≡ NUMBERS) where
  counted_low : (i : ℕ) → i < 64 → at (counted n d c g l) i ≡ at l i
  counted_low i h =
      at_set_other (set (set (set l 64 n) 65 d) 66 c) 67 g i (λ e. omega arith) ∙ at_set_other (set (set l 64 n) 65 d) 66 c i (λ e. omega arith)
      ∙ at_set_other (set l 64 n) 65 d i (λ e. omega arith) ∙ at_set_other l 64 n i (λ e. omega arith)

  long1 : length (set l 64 n) ≡ NUMBERS
  long1 = length-set l 64 n ∙ long

  long2 : length (set (set l 64 n) 65 d) ≡ NUMBERS
  long2 = length-set (set l 64 n) 65 d ∙ long1

  long3 : length (set (set (set l 64 n) 65 d) 66 c) ≡ NUMBERS
  long3 = length-set (set (set l 64 n) 65 d) 66 c ∙ long2

  counted_n : at (counted n d c g l) 64 ≡ n
  counted_n =
      at_set_other (set (set (set l 64 n) 65 d) 66 c) 67 g 64 (λ e. omega arith) ∙ at_set_other (set (set l 64 n) 65 d) 66 c 64 (λ e. omega arith)
      ∙ at_set_other (set l 64 n) 65 d 64 (λ e. omega arith) ∙ at_set l 64 n (omega arith)

  counted_d : at (counted n d c g l) 65 ≡ d
  counted_d =
      at_set_other (set (set (set l 64 n) 65 d) 66 c) 67 g 65 (λ e. omega arith) ∙ at_set_other (set (set l 64 n) 65 d) 66 c 65 (λ e. omega arith)
      ∙ at_set (set l 64 n) 65 d (omega (arith, long1))

  counted_c : at (counted n d c g l) 66 ≡ c
  counted_c = at_set_other (set (set (set l 64 n) 65 d) 66 c) 67 g 66 (λ e. omega arith) ∙ at_set (set (set l 64 n) 65 d) 66 c (omega (arith, long2))

  counted_length : length (counted n d c g l) ≡ NUMBERS
  counted_length = length-set (set (set (set l 64 n) 65 d) 66 c) 67 g ∙ long3

  counted_g : at (counted n d c g l) 67 ≡ g
  counted_g = at_set (set (set (set l 64 n) 65 d) 66 c) 67 g (omega (arith, long3))

-- ---- the constraints of the problem
module _ (b : List ℕ) where
  abbrev c : ℕ
  c = (header_of b).constraints

  abbrev o : ℕ
  o = (header_of b).second

  many : length (problem_of b).constraints ≡ c
  unfolding problem_of
  many = length_constraints b c o

  constraint_is : (k : ℕ) → k < c → constraint_at (problem_of b) k ≡ record { scope = scope_at b (offset_at b o k); rows = rows_at b (offset_at b o k) }
  unfolding problem_of
  constraint_is k l = constraint_at_lem b c o k l

  scope_is : (k : ℕ) → k < c → (constraint_at (problem_of b) k).scope ≡ scope_at b (offset_at b o k)
  scope_is k l = ap (λ (r : Constraint). r.scope) (constraint_is k l)

  rows_are : (k : ℕ) → k < c → (constraint_at (problem_of b) k).rows ≡ rows_at b (offset_at b o k)
  rows_are k l = ap (λ (r : Constraint). r.rows) (constraint_is k l)

  arity_is : (k : ℕ) → k < c → length (constraint_at (problem_of b) k).scope ≡ word b (offset_at b o k)
  unfolding scope_at
  arity_is k l = ap length (scope_is k l) ∙ length_words b (offset_at b o k + 4) (word b (offset_at b o k))

  module _ (f : Fit b) (good : (j : ℕ) → j < (header_of b).constraints → Good b (header_of b).variables (header_of b).values (offset_at b (header_of b).second j)) where
    -- ---- the numbers
    module _ (l m : List ℕ) (long : length l ≡ NUMBERS) (blank : (i : ℕ) → at l i ≡ 0) (sets : AllSets b (header_of b).variables l m) where
      abbrev t : Held b (header_of b).second (header_of b).constraints m (numbers_to b (header_of b).second (header_of b).constraints m)
      t =
          held b (header_of b).variables (header_of b).values (header_of b).second (header_of b).constraints (omega (arith, f.few)) good m (sets.sized ∙ long) f.constraints
          (λ x h. sets.low x h ∙ blank x) (header_of b).constraints (omega arith)

      abbrev mid : List ℕ
      mid = numbers_to b (header_of b).second (header_of b).constraints m

      abbrev new : List ℕ
      new = counted (header_of b).variables (header_of b).values (header_of b).constraints (header_of b).symmetries mid

      sized : length mid ≡ NUMBERS
      sized = t.sized ∙ sets.sized ∙ long

      low : (i : ℕ) → i < 64 → at new i ≡ at mid i
      low = counted_low (header_of b).variables (header_of b).values (header_of b).constraints (header_of b).symmetries mid sized

      touching : (x k : ℕ) → x < 16 → k < length (problem_of b).constraints → has (at new x) k ≡ any (eqb x) (constraint_at (problem_of b) k).scope
      touching x k hx hk =
          let h : k < (header_of b).constraints = omega (arith, many) in
          ap (λ (s : ℕ). has s k) (low x (omega arith)) ∙ t.touching x k hx
          ∙ ap₂ (λ (u v : Bool). either u (both v (any (eqb x) (scope_at b (offset_at b (header_of b).second k))))) (ap (λ (s : ℕ). has s k) (sets.low x hx ∙ blank x) ∙ has_none k)
          (lt-ltb k (header_of b).constraints h)
          ∙ ap (any (eqb x)) (sym (scope_is k h))

      pub numbered_length : length new ≡ NUMBERS
      numbered_length = counted_length (header_of b).variables (header_of b).values (header_of b).constraints (header_of b).symmetries mid sized

      pub numbered : Numbers (problem_of b) new
      unfolding problem_of scope_at
      numbered =
          record {
            touching = touching;
            touching_few = λ x h. subst (λ (s : ℕ). s < 2 ^ length (problem_of b).constraints) (sym (low x (omega arith))) (subst (λ (k : ℕ). at mid x < 2 ^ k) (sym many) (t.touching_few x h));
            initial = λ x h. (let w : x < 12 = omega (arith, f.few) in low (16 + x) (omega arith) ∙ t.kept (16 + x) (omega arith) (omega arith) ∙ sets.initial x h ∙ sym
                (at_words b 16 (header_of b).variables x h));
            unused = λ x h k. low (16 + x) (omega arith) ∙ t.kept (16 + x) (omega arith) (omega arith) ∙ sets.unused x h k;
            arity = λ k h. (let w : k < (header_of b).constraints = omega (arith, many) in
                ap (λ (s : ℕ). s % 256) (low (32 + k) (omega (arith, f.constraints)) ∙ t.packs k w)
                ∙ packed_arity b (offset_at b (header_of b).second k + 4) (word b (offset_at b (header_of b).second k)) (good k w).few ∙ sym (arity_is k w));
            scope = λ k i h l. (let w : k < (header_of b).constraints = omega (arith, many) in
                let p = offset_at b (header_of b).second k in
                let v : i < word b p = subst (λ (s : ℕ). i < s) (arity_is k w) l in
                ap (λ (s : ℕ). s / 256 ^ suc i % 256) (low (32 + k) (omega (arith, f.constraints)) ∙ t.packs k w)
                ∙ packed_at b (p + 4) (word b p) i (good k w).few v (λ j z. (let y = (good k w).scoped j z in omega (arith, f.few)))
                ∙ sym (ap (λ (s : List ℕ). at s i) (scope_is k w) ∙ at_words b (p + 4) (word b p) i v));
            variables = counted_n (header_of b).variables (header_of b).values (header_of b).constraints (header_of b).symmetries mid sized;
            values = counted_d (header_of b).variables (header_of b).values (header_of b).constraints (header_of b).symmetries mid sized;
            constraints = counted_c (header_of b).variables (header_of b).values (header_of b).constraints (header_of b).symmetries mid sized ∙ sym many;
            symmetries = counted_g (header_of b).variables (header_of b).values (header_of b).constraints (header_of b).symmetries mid sized ∙ sym tables;
          }
        where
          tables : length (map (table_at b (header_of b)) (below (header_of b).symmetries)) ≡ (header_of b).symmetries
          tables = length_below (table_at b (header_of b)) (header_of b).symmetries

    -- ---- the support sets
    supports_backed : (l : List ℕ) → length l ≡ SUPPORTS → ((y : ℕ) → at l y ≡ 0) → Backed b (header_of b).second (header_of b).constraints l
        (supports_to b (header_of b).second (header_of b).constraints l)
    supports_backed l long blank = backed b (header_of b).variables (header_of b).values (header_of b).second (header_of b).constraints f.sixteen f.constraints good l long blank
        (header_of b).constraints (omega arith)

    pub supports_length : (l : List ℕ) → length l ≡ SUPPORTS → ((y : ℕ) → at l y ≡ 0) → length (supports_to b (header_of b).second (header_of b).constraints l) ≡ SUPPORTS
    supports_length l long blank = (supports_backed l long blank).sized ∙ long

    pub supports_hold : (l : List ℕ) → length l ≡ SUPPORTS → ((y : ℕ) → at l y ≡ 0) → Supports (problem_of b) (supports_to b (header_of b).second (header_of b).constraints l)
    supports_hold l long blank k h vs size small =
        let w : k < (header_of b).constraints = omega (arith, many) in
        let p = offset_at b (header_of b).second k in
        let t = supports_backed l long blank in
        let s = at (supports_to b (header_of b).second (header_of b).constraints l) (256 * k + place vs) in
        set_of_rows b (header_of b).variables (header_of b).values p f.sixteen (good k w) vs (size ∙ arity_is k w) small s (t.small (256 * k + place vs))
        (λ q v e z y. ap (λ (i : ℕ). has (at (supports_to b (header_of b).second (header_of b).constraints l) (256 * k + i)) v) (sym e) ∙ t.holds k q v w z y)
        ∙ ap (λ (r : List (List ℕ)). mask_of (λ v. any (same (vs ++ (v ∷ []))) r)) (sym (rows_are k w))
