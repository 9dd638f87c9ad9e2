-- The answer for one constraint, from what was found on the way. Assumes nothing.
use Rattle.model.specs.Kit.{◌≡◌, refl, sym, ap, ap₂, ◌∙◌, subst₂, Bool, true, false, ⊎_elim, List, ℕ, ◌+◌, ◌*◌, ◌≤◌, ◌<◌, arith, mul-le-mul_right, T, leb, ltb, eqb, le-leb, lt-leb, leb-true}
use Rattle.model.specs.Kit.{eqb-true, eqb-false}
use Rattle.model.specs.{Lists.both, Lists.all, Lists.ascending, Verdict.Verdict, Verdict.refused, Sheet.header_of, Sheet.word, Sheet.scope_at, Sheet.rows_at, Sheet.after_at, Sheet.constraint_verdict}
use mathlib.Core.Path.{subst₃}
use Rattle.model.proofs.{Lists.both_l, Lists.both_r, Lists.T_of, Lists.of_T, Lists.never, Numbering.number_of-injective}
use Rattle.std.specs.Prelude.{Result, Ok, Err}
use Rattle.model.specs.{Refusals.number_of, declared.refusals.Question.Question}
use Rattle.model.specs.declared.refusals.Question.TheVariants.{ConstraintEnd, ConstraintSize, Scope, RowValues, RowOrder}
use Rattle.sheet.specs.{Inner.Fill.ScopeAsked, Inner.Fill.RowsAsked, Inner.Steps.ConstraintAsked}
use Rattle.sheet.proofs.RowsTest.{order_two, rows_ascend_lem, rows_fall, rows_fit, row_unfit}

-- ---- what the code reads is what the questions ask of
pub counts : (b : List ℕ) (o a r : ℕ) (t s : Bool) → a ≡ word b o → r ≡ word b (o + 2) → t ≡ both (both (leb 1 a) (leb a 3)) (leb r 256) → t ≡ s →
    both (both (leb 1 (word b o)) (leb (word b o) 3)) (leb (word b (o + 2)) 256) ≡ s
counts b o a r t s ea er e q = subst₂ (λ (x y : ℕ). both (both (leb 1 x) (leb x 3)) (leb y 256) ≡ s) ea er (sym e ∙ q)

-- few variables and few rows
pub few : (a r : ℕ) (t : Bool) → t ≡ both (both (leb 1 a) (leb a 3)) (leb r 256) → t ≡ true → (1 ≤ a) × (a ≤ 3) × (r ≤ 256)
few a r t e q =
    let u : T (both (both (leb 1 a) (leb a 3)) (leb r 256)) = T_of (both (both (leb 1 a) (leb a 3)) (leb r 256)) (sym e ∙ q) in
    let v = both_l (both (leb 1 a) (leb a 3)) (leb r 256) u in (
      leb-true 1 a (of_T (leb 1 a) (both_l (leb 1 a) (leb a 3) v)),
      leb-true a 3 (of_T (leb a 3) (both_r (leb 1 a) (leb a 3) v)),
      leb-true r 256 (of_T (leb r 256) (both_r (both (leb 1 a) (leb a 3)) (leb r 256) u)),
    )

pub product : (a r : ℕ) (t : Bool) → t ≡ both (both (leb 1 a) (leb a 3)) (leb r 256) → t ≡ true → r * a ≤ 256 * a
product a r t e q = mul-le-mul_right a (few a r t e q).2

pub after : (b : List ℕ) (o a r : ℕ) → a ≡ word b o → r ≡ word b (o + 2) → o + 4 + 2 * a + 2 * (r * a) ≡ after_at b o
unfolding after_at
after b o a r ea er = ap₂ (λ (x y : ℕ). o + 4 + 2 * x + 2 * (y * x)) ea er

pub scope_of : (b : List ℕ) (o a n m k : ℕ) (old new : List ℕ) (r : Bool) → a ≡ word b o → n ≡ m → ScopeAsked b (o + 4) a n k old new r → ScopeAsked b (o + 4) (word b o) m k old new r
scope_of b o a n m k old new r ea en s = subst₂ (λ (x y : ℕ). ScopeAsked b (o + 4) x y k old new r) ea en s

pub rows_of : (b : List ℕ) (o a r d v base : ℕ) (old new : List ℕ) (q : Result Unit Question) → a ≡ word b o → r ≡ word b (o + 2) → d ≡ v →
    RowsAsked b (o + 4 + 2 * a) a r d base old new q → RowsAsked b (o + 4 + 2 * word b o) (word b o) (word b (o + 2)) v base old new q
rows_of b o a r d v base old new q ea er ed s = subst₃ (λ (x y z : ℕ). RowsAsked b (o + 4 + 2 * x) x y z base old new q) ea er ed s

-- ---- the answers
pub refusal : (b : List ℕ) (o k : ℕ) (q : Question) (numbers supports numbers' supports' : List ℕ) →
    ((later : Verdict) → constraint_verdict b (header_of b) k o later ≡ refused (number_of q) k) → ConstraintAsked b o k numbers supports numbers' supports' (Err q)
refusal b o k q numbers supports numbers' supports' h =
    record {
      answers = h;
      next = λ o' e. absurd (never_so o' e);
      inside = λ o' e. absurd (never_so o' e);
      scoped = λ o' e. absurd (never_so o' e);
      supported = λ o' e. absurd (never_so o' e);
    }
  where
    never_so : (o' : ℕ) → Err q ≡ Ok o' → ⊥
    never_so o' e = never (cc)

-- the counts do not end by the third offset
pub refused_9 : (b : List ℕ) (o k third : ℕ) (numbers supports numbers' supports' : List ℕ) → third ≡ (header_of b).third → third < o + 4 → ConstraintAsked b o k numbers supports numbers' supports'
    (Err ConstraintEnd)
unfolding constraint_verdict
refused_9 b o k third numbers supports numbers' supports' e l =
    refusal b o k ConstraintEnd numbers supports numbers' supports' (λ later. simp (lt-leb (o + 4) (header_of b).third (omega arith)))

module _ (b : List ℕ) (o k third : ℕ) (numbers supports numbers' supports' : List ℕ) (et : third ≡ (header_of b).third) (l : o + 4 ≤ third) (a r : ℕ) (ea : a ≡ word b o) (er : r ≡ word b (o + 2))
    (t : Bool) (et' : t ≡ both (both (leb 1 a) (leb a 3)) (leb r 256)) where
  one : leb (o + 4) (header_of b).third ≡ true
  one = le-leb (o + 4) (header_of b).third (omega arith)

  pub refused_10 : t ≡ false → ConstraintAsked b o k numbers supports numbers' supports' (Err ConstraintSize)
  unfolding constraint_verdict
  refused_10 q = refusal b o k ConstraintSize numbers supports numbers' supports' (λ later. simp (one, counts b o a r t false ea er et' q))

  module _ (q : t ≡ true) where
    two : both (both (leb 1 (word b o)) (leb (word b o) 3)) (leb (word b (o + 2)) 256) ≡ true
    two = counts b o a r t true ea er et' q

    pub refused_9_later : third < o + 4 + 2 * a + 2 * (r * a) → ConstraintAsked b o k numbers supports numbers' supports' (Err ConstraintEnd)
    unfolding constraint_verdict
    refused_9_later m =
        refusal b o k ConstraintEnd numbers supports numbers' supports'
        (λ later. simp (one, two, lt-leb (after_at b o) (header_of b).third (let e = after b o a r ea er in omega arith)))

    module _ (m : o + 4 + 2 * a + 2 * (r * a) ≤ third) (n : ℕ) (en : n ≡ (header_of b).variables) (u : Bool) (s : ScopeAsked b (o + 4) a n k numbers numbers' u) where
      three : leb (after_at b o) (header_of b).third ≡ true
      three = le-leb (after_at b o) (header_of b).third (let e = after b o a r ea er in omega arith)

      moved : ScopeAsked b (o + 4) (word b o) (header_of b).variables k numbers numbers' u
      moved = scope_of b o a n (header_of b).variables k numbers numbers' u ea en s

      four : (v : Bool) → u ≡ v → both (all (λ x. ltb x (header_of b).variables) (scope_at b o)) (ascending (scope_at b o)) ≡ v
      unfolding scope_at
      four v w = sym moved.answers ∙ w

      pub refused_11 : u ≡ false → ConstraintAsked b o k numbers supports numbers' supports' (Err Scope)
      unfolding constraint_verdict
      refused_11 w = refusal b o k Scope numbers supports numbers' supports' (λ later. simp (one, two, three, four false w))

      module _ (w : u ≡ true) (d : ℕ) (ed : d ≡ (header_of b).values) (d16 : d ≤ 16) (p : Result Unit Question) (rows : RowsAsked b (o + 4 + 2 * a) a r d (256 * k) supports supports' p) where
        asked : RowsAsked b (o + 4 + 2 * word b o) (word b o) (word b (o + 2)) (header_of b).values (256 * k) supports supports' p
        asked = rows_of b o a r d (header_of b).values (256 * k) supports supports' p ea er ed rows

        narrow : (header_of b).values ≤ 16
        narrow = omega arith

        five : (p ≡ Err RowValues → ⊥) → all (all (λ w. ltb w (header_of b).values)) (rows_at b o) ≡ true
        unfolding rows_at
        five h = rows_fit b (o + 4 + 2 * word b o) (word b o) (header_of b).values narrow (word b (o + 2)) (asked.passed h).1

        refused_12 : p ≡ Err RowValues → (later : Verdict) → constraint_verdict b (header_of b) k o later ≡ refused 12 k
        unfolding constraint_verdict rows_at
        refused_12 h later =
            let f = asked.refused h in
            simp (one, two, three, four true w, row_unfit b (o + 4 + 2 * word b o) (word b o) (header_of b).values narrow (word b (o + 2)) f.0 f.1 f.2)

        refused_13 : (p ≡ Err RowValues → ⊥) → (p ≡ Ok tt → ⊥) → (later : Verdict) → constraint_verdict b (header_of b) k o later ≡ refused 13 k
        unfolding constraint_verdict rows_at
        refused_13 h g later =
            let f = asked.passed h in
            simp (one, two, three, four true w, five h, rows_fall b (o + 4 + 2 * word b o) (word b o) (header_of b).values narrow (word b (o + 2)) f.1 (λ z. g (f.0 ∙ z)))

        thirteen : (p ≡ Err RowValues → ⊥) → (p ≡ Ok tt → ⊥) → p ≡ Err RowOrder
        thirteen h g =
            let f = asked.passed h in
            ⊎_elim {C = p ≡ Err RowOrder} (λ z. absurd (g (f.0 ∙ z))) (λ z. f.0 ∙ z) (order_two b (o + 4 + 2 * word b o) (word b o) (header_of b).values narrow (word b (o + 2)))

        pub refused_rows : (q : Question) → p ≡ Err q → ConstraintAsked b o k numbers supports numbers' supports' (Err q)
        refused_rows q e = go (eqb (number_of q) 12) refl
          where
            go : (v : Bool) → eqb (number_of q) 12 ≡ v → ConstraintAsked b o k numbers supports numbers' supports' (Err q)
            go true f =
                let s : q ≡ RowValues = number_of-injective q RowValues (eqb-true (number_of q) 12 f) in
                refusal b o k q numbers supports numbers' supports' (λ later. refused_12 (e ∙ ap Err s) later ∙ ap (λ (z : Question). refused (number_of z) k) (sym s))
            go false f =
                let h : p ≡ Err RowValues → ⊥ = λ z. eqb-false (number_of q) 12 f (let s : q ≡ RowValues = cc in ap number_of s) in
                let g : p ≡ Ok tt → ⊥ = λ z. never (cc) in
                let r : p ≡ Err RowOrder = thirteen h g in
                let s : q ≡ RowOrder = cc in
                refusal b o k q numbers supports numbers' supports' (λ later. refused_13 h g later ∙ ap (λ (z : Question). refused (number_of z) k) (sym s))

        passes : p ≡ Ok tt → (later : Verdict) → constraint_verdict b (header_of b) k o later ≡ later
        unfolding constraint_verdict rows_at
        passes g later =
            let h : p ≡ Err RowValues → ⊥ = λ z. never (cc) in
            let f = asked.passed h in
            simp (one, two, three, four true w, five h, rows_ascend_lem b (o + 4 + 2 * word b o) (word b o) (header_of b).values narrow (word b (o + 2)) f.1 (sym f.0 ∙ g))

        pub passed : p ≡ Ok tt → ConstraintAsked b o k numbers supports numbers' supports' (Ok (o + 4 + 2 * a + 2 * (r * a)))
        passed g =
            record {
              answers = passes g;
              next = λ o' e. (let z : o + 4 + 2 * a + 2 * (r * a) ≡ o' = cc in sym z ∙ after b o a r ea er);
              inside = λ o' e. (let z : o + 4 + 2 * a + 2 * (r * a) ≡ o' = cc in omega arith);
              scoped = λ o' e. moved.stored w;
              supported = λ o' e. (asked.passed (λ z. never (cc))).2;
            }
