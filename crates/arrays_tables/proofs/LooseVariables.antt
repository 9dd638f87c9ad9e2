-- Loose variables. Assumes nothing.
use Rattle.model.specs.Kit.{◌≡◌, sym, subst, Bool, true, false, not, ◌⊎◌, inl, inr, ⊎_elim, List, ℕ, ◌+◌, ◌*◌, ◌≤◌, ◌<◌, not-suc-le-zero, arith, ℕ_discrete, bit_or, T, eqb, eqb→eq}
use Rattle.model.specs.{Lists.at, Lists.both, Lists.either, ValueSets.has, ValueSets.union_mask, ValueSets.common_mask, ValueSets.one_if}
use Rattle.model.proofs.{Lists.of_T, Lists.of_not, Lists.both_i, Lists.both_l, Lists.both_r, Lists.either_l, Lists.either_r, Lists.either_e, Sets.mask_i, Masks.has_one_if, Members.has_0, Members.or_e}
use Rattle.arrays.specs.Inner.Places.{VARIABLES}
use Rattle.arrays_tables.specs.Inner.Steps.{initial_of, Refused, Twice, LooseTo, LooseSet}

-- ---- one value
pub refused_none : (tables : List ℕ) (m from v : ℕ) → has m v ≡ false → Refused tables m from v 0
refused_none tables m from v e = record { refused = λ t. absurd (of_not (has m v) e t) }

pub refused_not : (tables : List ℕ) (m from v r : ℕ) → ((w : ℕ) → w < 16 → has r w ≡ not (has (at tables (from + 16 * v)) w)) → Refused tables m from v r
refused_not tables m from v r e = record { refused = λ t w l. subst (λ (b : Bool). T (either (has (at tables (from + 16 * v)) w) b)) (sym (e w l)) (whole (has (at tables (from + 16 * v)) w)) }
  where
    whole : (b : Bool) → T (either b (not b))
    whole true = tt
    whole false = tt

-- ---- two values
-- what one of the first i values of m refuses is in `once`
pub record RefusedSoFar (tables : List ℕ) (m from i once all : ℕ) : Type 0 where
  pub one : (v : ℕ) → v < i → Refused tables m from v once
  pub two : Twice tables m from i all

pub refused_begin : (tables : List ℕ) (m from : ℕ) → RefusedSoFar tables m from 0 0 0
refused_begin tables m from = record { one = λ v l. absurd (not-suc-le-zero l); two = record { refused = λ u v l k. absurd (not-suc-le-zero k) } }

either_map : (a b c : Bool) → (T b → T c) → T (either a b) → T (either a c)
either_map true b c f t = tt
either_map false b c f t = f t

both_refuse : (a b r s : Bool) → T (either a r) → T (either b s) → T (either (either a b) (both r s))
both_refuse true b r s p q = tt
both_refuse false true r s p q = tt
both_refuse false false true s p q = q
both_refuse false false false s p q = p

-- members of the results of the type's operations
in_union : (s t r w : ℕ) → r ≡ union_mask s t → w < 16 → T (has s w) ⊎ T (has t w) → T (has r w)
in_union s t r w e l (inl q) = subst (λ (n : ℕ). T (has n w)) (sym e) (mask_i _ w l (either_l (has s w) (has t w) q))
in_union s t r w e l (inr q) = subst (λ (n : ℕ). T (has n w)) (sym e) (mask_i _ w l (either_r (has s w) (has t w) q))

in_common : (s t r w : ℕ) → r ≡ common_mask s t → w < 16 → T (both (has s w) (has t w)) → T (has r w)
in_common s t r w e l q = subst (λ (n : ℕ). T (has n w)) (sym e) (mask_i _ w l q)

module _ (tables : List ℕ) (m from i once all r : ℕ) (s : RefusedSoFar tables m from i once all) (q : Refused tables m from i r) (common once' all' : ℕ) (ec : common ≡ common_mask once r)
    (eo : once' ≡ union_mask once r) (ea : all' ≡ union_mask all common) where
  pub refused_turn : RefusedSoFar tables m from (i + 1) once' all'
  refused_turn = record { one = λ v l. one v l (ℕ_discrete v i); two = record { refused = λ u v k l a b w h. two u v k l a b w h (ℕ_discrete v i) } }
    where
      one : (v : ℕ) → v < i + 1 → Dec (v ≡ i) → Refused tables m from v once'
      one v l (yes e) = record {
        refused = λ t w h. subst (λ (z : ℕ). T (either (has (at tables (from + 16 * z)) w) (has once' w))) (sym e)
            (either_map (has (at tables (from + 16 * i)) w) (has r w) (has once' w) (λ t. in_union once r once' w eo h (inr t)) (q.refused (subst (λ (z : ℕ). T (has m z)) e t) w h));
      }
      one v l (no n) = record {
        refused = λ t w h. either_map (has (at tables (from + 16 * v)) w) (has once w) (has once' w) (λ t. in_union once r once' w eo h (inl t))
            ((s.one v (omega arith)).refused t w h);
      }

      two : (u v : ℕ) → u < v → v < i + 1 → T (has m u) → T (has m v) → (w : ℕ) → w < 16 → Dec (v ≡ i) →
          T (either (either (has (at tables (from + 16 * u)) w) (has (at tables (from + 16 * v)) w)) (has all' w))
      two u v k l a b w h (yes e) =
          either_map (either (has (at tables (from + 16 * u)) w) (has (at tables (from + 16 * v)) w)) (both (has once w) (has r w)) (has all' w)
          (λ t. in_union all common all' w ea h (inr (in_common once r common w ec h t)))
          (both_refuse (has (at tables (from + 16 * u)) w) (has (at tables (from + 16 * v)) w) (has once w) (has r w) ((s.one u (omega arith)).refused a w h)
          (subst (λ (z : ℕ). T (either (has (at tables (from + 16 * z)) w) (has r w))) (sym e) (q.refused (subst (λ (z : ℕ). T (has m z)) e b) w h)))
      two u v k l a b w h (no n) =
          either_map (either (has (at tables (from + 16 * u)) w) (has (at tables (from + 16 * v)) w)) (has all w) (has all' w)
          (λ t. in_union all common all' w ea h (inl t)) (s.two.refused u v k (omega arith) a b w h)

pub refused_end : (tables : List ℕ) (m from i once all : ℕ) → 16 ≤ i → RefusedSoFar tables m from i once all → Twice tables m from 16 all
refused_end tables m from i once all h s = record { refused = λ u v k l. s.two.refused u v k (omega arith) }

-- ---- one variable
pub loose_begin : (numbers tables : List ℕ) (x : ℕ) → LooseTo numbers tables x 0
loose_begin numbers tables x = record { goes = λ u v y w l. absurd (not-suc-le-zero l) }

pub loose_turn : (numbers tables : List ℕ) (x i m r lost : ℕ) → m ≡ initial_of numbers x → LooseTo numbers tables x i → Twice tables m (256 * x + i) 16 r → lost ≡ common_mask r (initial_of numbers i)
    → lost ≡ 0 → LooseTo numbers tables x (i + 1)
loose_turn numbers tables x i m r lost f s g e z = record { goes = λ u v y w l k h a b c d. go u v y w l k h a b c d (ℕ_discrete y i) }
  where
    t : Twice tables (initial_of numbers x) (256 * x + i) 16 r
    t = subst (λ (n : ℕ). Twice tables n (256 * x + i) 16 r) f g

    go : (u v y w : ℕ) → y < i + 1 → u < v → v < 16 → T (has (initial_of numbers x) u) → T (has (initial_of numbers x) v) → w < 16 → T (has (initial_of numbers y) w) → Dec (y ≡ i) →
        T (either (has (at tables (256 * x + y + 16 * u)) w) (has (at tables (256 * x + y + 16 * v)) w))
    go u v y w l k h a b c d (yes q) =
        subst (λ (j : ℕ). T (either (has (at tables (256 * x + j + 16 * u)) w) (has (at tables (256 * x + j + 16 * v)) w))) (sym q)
        (⊎_elim (λ j. j) (λ j. absurd (has_0 w (subst (λ (n : ℕ). T (has n w)) z (in_common r (initial_of numbers i) lost w e c
        (both_i (has r w) _ j (subst (λ (n : ℕ). T (has (initial_of numbers n) w)) q d))))))
        (either_e (either (has (at tables (256 * x + i + 16 * u)) w) (has (at tables (256 * x + i + 16 * v)) w)) (has r w) (t.refused u v k h a b w c)))
    go u v y w l k h a b c d (no n) = s.goes u v y w (omega arith) k h a b c d

pub loose_end : (numbers tables : List ℕ) (x i n : ℕ) → n ≤ i → LooseTo numbers tables x i → LooseTo numbers tables x n
loose_end numbers tables x i n h s = record { goes = λ u v y w l. s.goes u v y w (omega arith) }

-- ---- all variables
pub loose_none : (numbers tables : List ℕ) → LooseSet numbers tables 0 0
loose_none numbers tables = record { below = λ x t. absurd (has_0 x t); loose = λ x t. absurd (has_0 x t) }

module _ (numbers tables : List ℕ) (i all s : ℕ) (b : Bool) (g : LooseSet numbers tables i all) (e : s ≡ one_if b i) (q : b ≡ true → LooseTo numbers tables i (at numbers VARIABLES)) where
  new_one : (x : ℕ) → T (has s x) → (x ≡ i) × T b
  new_one x t =
      let r = subst T (has_one_if b i x) (subst (λ (n : ℕ). T (has n x)) e t) in
      (eqb→eq x i (both_r b (eqb x i) r), both_l b (eqb x i) r)

  pub loose_more : LooseSet numbers tables (i + 1) (bit_or all s)
  loose_more = record {
    below = λ x t. below x (or_e all s x t);
    loose = λ x t. ⊎_elim (g.loose x) (λ z. subst (λ (y : ℕ). LooseTo numbers tables y (at numbers VARIABLES)) (sym (new_one x z).0) (q (of_T b (new_one x z).1))) (or_e all s x t);
  }
    where
      below : (x : ℕ) → T (has all x) ⊎ T (has s x) → x < i + 1
      below x (inl t) = let l = g.below x t in omega arith
      below x (inr t) = let l = (new_one x t).0 in omega arith

pub loose_all : (numbers tables : List ℕ) (i n set : ℕ) → i ≤ n → LooseSet numbers tables i set → LooseSet numbers tables n set
loose_all numbers tables i n set h g = record { below = λ x t. (let l = g.below x t in omega arith); loose = g.loose }
