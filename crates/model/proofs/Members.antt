-- The members of a set one after another, lowest first, and the unions of what each of them gives. For any width. Assumes nothing.
use Rattle.model.specs.Kit.{◌≡◌, refl, sym, ap, ap₂, ◌∙◌, subst, Bool, true, false, not, ◌⊎◌, inl, inr, ⊎_elim, ℕ, zero, suc, ◌-◌, ◌*◌, ◌/◌, ◌%◌, ◌^◌, ◌<◌, mod-eq_of_lt, lt_of_le_of_lt, arith}
use Rattle.model.specs.Kit.{ℕ_discrete, T, eqb, bit_and, bit_or, and_le_l, count_trailing_zeros, pow-lt, eq-eqb, eqb-true, eqb-false, lt-ltb}
use Rattle.model.specs.{Lists.both, Lists.either, ValueSets.has, ValueSets.without_mask, ValueSets.lowest_of, ValueSets.full_mask, ValueSets.only_mask, ValueSets.common_mask}
use lib.Dec.{eqb-suc-suc, eqb-suc-zero}
use lib.Bits.{and_step, and_self, and_le_r, or_add_and, bit_xor, xor_add_and}
use lib.Count.{under}
use Rattle.model.proofs.Lists.{T_of, of_T, of_not, both_i, both_l, both_r, either_l, either_r, either_e, both_true, both_false}
use Rattle.model.proofs.{Sets.has_zero, Sets.has_suc, Sets.has_none, Sets.pow2, Sets.mask_i, Masks.has_and, Masks.has_or, Masks.has_one, Masks.is_mask, Masks.lowest_op}

-- ---- the lowest member
low_odd : (k s : ℕ) → s % 2 ≡ 1 → count_trailing_zeros (suc k) s ≡ 0
unfolding count_trailing_zeros
low_odd k s e = ap (λ (d : ℕ). under d (count_trailing_zeros k (s / 2))) e

low_even : (k s : ℕ) → s % 2 ≡ 0 → count_trailing_zeros (suc k) s ≡ suc (count_trailing_zeros k (s / 2))
unfolding count_trailing_zeros
low_even k s e = ap (λ (d : ℕ). under d (count_trailing_zeros k (s / 2))) e

odd_or_even : (s : ℕ) → (s % 2 ≡ 1) ⊎ (s % 2 ≡ 0)
odd_or_even s = go (eqb (s % 2) 1) refl
  where
    go : (b : Bool) → eqb (s % 2) 1 ≡ b → (s % 2 ≡ 1) ⊎ (s % 2 ≡ 0)
    go true e = inl (eqb-true (s % 2) 1 e)
    go false e = let n : s % 2 ≡ 1 → ⊥ = eqb-false (s % 2) 1 e in inr (omega arith)

pub low_has : (k s : ℕ) → 0 < s → s < 2 ^ k → T (has s (count_trailing_zeros k s)) × (count_trailing_zeros k s < k)
low_has zero s p h = absurd (omega arith)
low_has (suc k) s p h = go (low_has k (s / 2)) (odd_or_even s)
  where
    go : (0 < s / 2 → s / 2 < 2 ^ k → T (has (s / 2) (count_trailing_zeros k (s / 2))) × (count_trailing_zeros k (s / 2) < k)) → (s % 2 ≡ 1) ⊎ (s % 2 ≡ 0) →
        T (has s (count_trailing_zeros (suc k) s)) ×
        (count_trailing_zeros (suc k) s < suc k)
    go ih (inl e) = subst (λ (v : ℕ). T (has s v) × (v < suc k)) (sym (low_odd k s e)) (T_of (has s 0) (has_zero s ∙ eq-eqb (s % 2) 1 e), omega arith)
    go ih (inr e) =
        let r = ih (omega arith) (omega (arith, pow2 k)) in
        subst (λ (v : ℕ). T (has s v) × (v < suc k)) (sym (low_even k s e)) (
          T_of (has s (suc (count_trailing_zeros k (s / 2)))) (has_suc s (count_trailing_zeros k (s / 2)) ∙ of_T _ r.0),
          omega (arith, r.1),
        )

-- ---- tests whose second part is known
pub either_no : (b : Bool) → either b false ≡ b
either_no true = refl
either_no false = refl

-- ---- the set without its lowest member
-- the last bit and the half of s & (s - 1)
rest_last : (s : ℕ) → 0 < s → has (bit_and s (s - 1)) 0 ≡ false
rest_last s p = has_and s (s - 1) 0 ∙ go (odd_or_even s)
  where
    go : (s % 2 ≡ 1) ⊎ (s % 2 ≡ 0) → both (has s 0) (has (s - 1) 0) ≡ false
    go (inl e) =
        let q : (s - 1) % 2 ≡ 0 = omega arith in
        ap (both (has s 0)) (has_zero (s - 1) ∙ ap (λ (n : ℕ). eqb n 1) q) ∙ both_false (has s 0)
    go (inr e) = ap (λ (b : Bool). both b (has (s - 1) 0)) (has_zero s ∙ ap (λ (n : ℕ). eqb n 1) e)

rest_half : (s : ℕ) → bit_and s (s - 1) / 2 ≡ bit_and (s / 2) ((s - 1) / 2)
rest_half s = omega (arith, and_step s (s - 1))

pub rest_has : (k s v : ℕ) → 0 < s → s < 2 ^ k → has (bit_and s (s - 1)) v ≡ both (has s v) (not (eqb v (count_trailing_zeros k s)))
rest_has zero s v p h = absurd (omega arith)
rest_has (suc k) s zero p h = rest_last s p ∙ sym (go (odd_or_even s))
  where
    go : (s % 2 ≡ 1) ⊎ (s % 2 ≡ 0) → both (has s 0) (not (eqb 0 (count_trailing_zeros (suc k) s))) ≡ false
    go (inl e) = ap (λ (v : ℕ). both (has s 0) (not (eqb 0 v))) (low_odd k s e) ∙ both_false (has s 0)
    go (inr e) = ap (λ (b : Bool). both b (not (eqb 0 (count_trailing_zeros (suc k) s)))) (has_zero s ∙ ap (λ (n : ℕ). eqb n 1) e)
rest_has (suc k) s (suc v) p h = has_suc (bit_and s (s - 1)) v ∙ ap (λ (n : ℕ). has n v) (rest_half s) ∙ go (rest_has k (s / 2) v) (odd_or_even s)
  where
    go : (0 < s / 2 → s / 2 < 2 ^ k → has (bit_and (s / 2) (s / 2 - 1)) v ≡ both (has (s / 2) v) (not (eqb v (count_trailing_zeros k (s / 2))))) → (s % 2 ≡ 1) ⊎ (s % 2 ≡ 0) →
        has (bit_and (s / 2) ((s - 1) / 2)) v ≡ both (has s (suc v)) (not (eqb (suc v) (count_trailing_zeros (suc k) s)))
    go ih (inl e) =
        let q : (s - 1) / 2 ≡ s / 2 = omega arith in
        ap (λ (n : ℕ). has (bit_and (s / 2) n) v) q ∙ ap (λ (n : ℕ). has n v) (and_self (s / 2)) ∙ sym (has_suc s v)
        ∙ sym (both_true (has s (suc v))) ∙ ap (λ (b : Bool). both (has s (suc v)) (not b)) (sym (eqb-suc-zero v)) ∙ ap (λ (n : ℕ). both (has s (suc v)) (not (eqb (suc v) n))) (sym (low_odd k s e))
    go ih (inr e) =
        let q : (s - 1) / 2 ≡ s / 2 - 1 = omega arith in
        ap (λ (n : ℕ). has (bit_and (s / 2) n) v) q ∙ ih (omega arith) (omega (arith, pow2 k))
        ∙ ap₂ (λ (b c : Bool). both b (not c)) (sym (has_suc s v)) (sym (eqb-suc-suc v (count_trailing_zeros k (s / 2))))
        ∙ ap (λ (n : ℕ). both (has s (suc v)) (not (eqb (suc v) n))) (sym (low_even k s e))

-- the same as facts about members
module _ (k s : ℕ) (p : 0 < s) (h : s < 2 ^ k) where
  pub rest_e : (v : ℕ) → T (has (bit_and s (s - 1)) v) → T (has s v)
  rest_e v t = both_l (has s v) (not (eqb v (count_trailing_zeros k s))) (subst T (rest_has k s v p h) t)

  pub rest_i : (v : ℕ) → T (has s v) → T (has (bit_and s (s - 1)) v) ⊎ (v ≡ count_trailing_zeros k s)
  rest_i v t = go (eqb v (count_trailing_zeros k s)) refl
    where
      go : (b : Bool) → eqb v (count_trailing_zeros k s) ≡ b → T (has (bit_and s (s - 1)) v) ⊎ (v ≡ count_trailing_zeros k s)
      go true e = inr (eqb-true v (count_trailing_zeros k s) e)
      go false e = inl (subst T (sym (rest_has k s v p h)) (both_i (has s v) (not (eqb v (count_trailing_zeros k s))) t (T_of (not (eqb v (count_trailing_zeros k s))) (ap not e))))

-- ---- the set without its lowest member, as a comprehension
pub without_lowest_op : (s : ℕ) → s < 2 ^ 16 → bit_and s (s - 1) ≡ without_mask s (lowest_of s)
without_lowest_op s h = is_mask (bit_and s (s - 1)) _ (lt_of_le_of_lt (and_le_l s (s - 1)) h) (λ v l. go v (ℕ_discrete s 0))
  where
    go : (v : ℕ) → Dec (s ≡ 0) → has (bit_and s (s - 1)) v ≡ both (has s v) (not (eqb v (lowest_of s)))
    go v (yes e) =
        let n : has s v ≡ false = ap (λ (z : ℕ). has z v) e ∙ has_none v in
        has_and s (s - 1) v ∙ ap (λ (b : Bool). both b (has (s - 1) v)) n ∙ sym (ap (λ (b : Bool). both b (not (eqb v (lowest_of s)))) n)
    go v (no n) = rest_has 16 s v (omega arith) h ∙ ap (λ (z : ℕ). both (has s v) (not (eqb v z))) (lowest_op 16 s)

pub without_lowest_none : (s : ℕ) → s ≡ 0 → s ≡ without_mask s (lowest_of s)
without_lowest_none s e = let z : s ≡ bit_and s (s - 1) = omega (arith, and_le_l s (s - 1)) in z ∙ without_lowest_op s (omega arith)

-- ---- one member
pub one_bit : (k u : ℕ) → u < k → 1 * 2 ^ u % 2 ^ k ≡ 2 ^ u
one_bit k u h =
    let e : 1 * 2 ^ u ≡ 2 ^ u = omega arith in
    ap (λ (n : ℕ). n % 2 ^ k) e ∙ mod-eq_of_lt (pow-lt h)

pub one_has : (k u v : ℕ) → u < k → has (1 * 2 ^ u % 2 ^ k) v ≡ eqb v u
one_has k u v h = ap (λ (n : ℕ). has n v) (one_bit k u h) ∙ has_one u v

pub has_0 : (v : ℕ) → T (has 0 v) → ⊥
has_0 v t = of_not (has 0 v) (has_none v) t

-- ---- the members that are left
abbrev pub Rest : ℕ → ℕ → ℕ → Type 0
Rest k a m = (m < 2 ^ k) × ((v : ℕ) → T (has m v) → T (has a v))

pub rest_begin : (k a : ℕ) → a < 2 ^ k → Rest k a a
rest_begin k a h = (h, λ v t. t)

module _ (k a m : ℕ) (r : Rest k a m) (n : m ≡ 0 → ⊥) where
  positive : 0 < m
  positive = omega arith

  pub rest_low : T (has a (count_trailing_zeros k m)) × (count_trailing_zeros k m < k)
  rest_low = let l = low_has k m positive r.0 in (r.1 (count_trailing_zeros k m) l.0, l.1)

  pub rest_turn : Rest k a (bit_and m (m - 1))
  rest_turn = (lt_of_le_of_lt (and_le_l m (m - 1)) r.0, λ v t. r.1 v (rest_e k m positive r.0 v t))

pub rest_less : (m : ℕ) → (m ≡ 0 → ⊥) → bit_and m (m - 1) < m
rest_less m n = omega (arith, and_le_r m (m - 1))

-- ---- what the members passed so far give
pub record Union (R : ℕ → ℕ → Type 0) (a m acc : ℕ) : Type 0 where
  pub put : (v w : ℕ) → T (has a v) → R v w → T (has acc w) ⊎ T (has m v)
  pub got : (w : ℕ) → T (has acc w) → (v : ℕ) × T (has a v) × R v w

pub union_begin : (R : ℕ → ℕ → Type 0) (a : ℕ) → Union R a a 0
union_begin R a = record { put = λ v w t r. inr t; got = λ w t. absurd (has_0 w t) }

pub or_i : (a b v : ℕ) → T (has a v) ⊎ T (has b v) → T (has (bit_or a b) v)
or_i a b v (inl t) = subst T (sym (has_or a b v)) (either_l (has a v) (has b v) t)
or_i a b v (inr t) = subst T (sym (has_or a b v)) (either_r (has a v) (has b v) t)

pub or_e : (a b v : ℕ) → T (has (bit_or a b) v) → T (has a v) ⊎ T (has b v)
or_e a b v t = either_e (has a v) (has b v) (subst T (has_or a b v) t)

pub and_i : (a b v : ℕ) → T (has a v) → T (has b v) → T (has (bit_and a b) v)
and_i a b v s t = subst T (sym (has_and a b v)) (both_i (has a v) (has b v) s t)

pub and_e : (a b v : ℕ) → T (has (bit_and a b) v) → T (has a v) × T (has b v)
and_e a b v t = let q = subst T (has_and a b v) t in (both_l (has a v) (has b v) q, both_r (has a v) (has b v) q)

pub or_zero_e : (a b : ℕ) → bit_or a b ≡ 0 → (a ≡ 0) × (b ≡ 0)
or_zero_e a b e = (omega (arith, or_add_and a b, and_le_r a b), omega (arith, or_add_and a b, and_le_l a b))

-- numbers without a difference are the same
pub xor_zero_e : (a b : ℕ) → bit_xor a b ≡ 0 → a ≡ b
xor_zero_e a b e = omega (arith, xor_add_and a b, and_le_l a b, and_le_r a b, e)

-- one turn: s is what the lowest member gives
pub union_turn : (R : ℕ → ℕ → Type 0) (k a m acc s : ℕ) → Rest k a m → (m ≡ 0 → ⊥) → Union R a m acc →
    ((w : ℕ) → R (count_trailing_zeros k m) w → T (has s w)) → ((w : ℕ) → T (has s w) → R (count_trailing_zeros k m) w) → Union R a (bit_and m (m - 1)) (bit_or acc s)
union_turn R k a m acc s r n u i e =
    record { put = λ v w t q. put v w q (u.put v w t q); got = λ w t. ⊎_elim (u.got w) (λ t'. (count_trailing_zeros k m, (rest_low k a m r n).0, e w t')) (or_e acc s w t) }
  where
    put : (v w : ℕ) → R v w → T (has acc w) ⊎ T (has m v) → T (has (bit_or acc s) w) ⊎ T (has (bit_and m (m - 1)) v)
    put v w q (inl t) = inl (or_i acc s w (inl t))
    put v w q (inr t) = last (rest_i k m (positive k a m r n) r.0 v t)
      where
        last : T (has (bit_and m (m - 1)) v) ⊎ (v ≡ count_trailing_zeros k m) → T (has (bit_or acc s) w) ⊎ T (has (bit_and m (m - 1)) v)
        last (inl t) = inr t
        last (inr f) = inl (or_i acc s w (inr (i w (subst (λ (z : ℕ). R z w) f q))))

pub union_end : (R : ℕ → ℕ → Type 0) (a m acc : ℕ) → m ≡ 0 → Union R a m acc → (v w : ℕ) → T (has a v) → R v w → T (has acc w)
union_end R a m acc e u v w t r = ⊎_elim (λ q. q) (λ q. absurd (has_0 v (subst (λ (n : ℕ). T (has n v)) e q))) (u.put v w t r)

-- ---- the same by the operations of the type
-- a bound of one of two sets is enough
pub common_op_r : (s t : ℕ) → t < 2 ^ 16 → bit_and s t ≡ common_mask s t
common_op_r s t h = is_mask (bit_and s t) _ (lt_of_le_of_lt (and_le_r s t) h) (λ v l. has_and s t v)

pub common_op_l : (s t : ℕ) → s < 2 ^ 16 → bit_and s t ≡ common_mask s t
common_op_l s t h = is_mask (bit_and s t) _ (lt_of_le_of_lt (and_le_l s t) h) (λ v l. has_and s t v)

-- one member kept of a set
pub only_member : (s v : ℕ) → v < 16 → T (has s v) → only_mask s v ≡ 2 ^ v
only_member s v h t = sym (is_mask (2 ^ v) _ (pow-lt h) (λ u l. has_one v u ∙ go u (eqb u v) refl))
  where
    go : (u : ℕ) (b : Bool) → eqb u v ≡ b → eqb u v ≡ both (has s u) (eqb u v)
    go u true e = sym (ap (λ (b : Bool). both b (eqb u v)) (of_T (has s u) (subst (λ (z : ℕ). T (has s z)) (sym (eqb-true u v e)) t)))
    go u false e = e ∙ sym (ap (both (has s u)) e ∙ both_false (has s u))

pub one_op : (v : ℕ) → v < 16 → only_mask (full_mask 16) v ≡ 2 ^ v
one_op v h = only_member (full_mask 16) v h (mask_i _ v h (T_of _ (lt-ltb v 16 h)))

-- the lowest member v of what is left
module _ (a m v : ℕ) (r : Rest 16 a m) (n : m ≡ 0 → ⊥) (low : v ≡ lowest_of m) where
  low_is : count_trailing_zeros 16 m ≡ v
  low_is = lowest_op 16 m ∙ sym low

  pub lowest_left : T (has a v) × (v < 16)
  lowest_left = subst (λ (z : ℕ). T (has a z) × (z < 16)) low_is (rest_low 16 a m r n)

  -- and the others
  module _ (m' : ℕ) (less : m' ≡ without_mask m (lowest_of m)) where
    less_is : bit_and m (m - 1) ≡ m'
    less_is = without_lowest_op m r.0 ∙ sym less

    pub others_left : Rest 16 a m'
    others_left = subst (Rest 16 a) less_is (rest_turn 16 a m r n)

    pub others_union : (R : ℕ → ℕ → Type 0) (acc s acc' : ℕ) → Union R a m acc → acc' ≡ bit_or acc s → ((w : ℕ) → R v w → T (has s w)) → ((w : ℕ) → T (has s w) → R v w) → Union R a m' acc'
    others_union R acc s acc' u e i o =
        subst (Union R a m') (sym e)
        (subst (λ (z : ℕ). Union R a z (bit_or acc s)) less_is
        (union_turn R 16 a m acc s r n u (λ w q. i w (subst (λ (z : ℕ). R z w) low_is q)) (λ w t. subst (λ (z : ℕ). R z w) (sym low_is) (o w t))))

pub others_less : (m m' : ℕ) → m < 2 ^ 16 → (m ≡ 0 → ⊥) → m' ≡ without_mask m (lowest_of m) → m' < m
others_less m m' h n e = subst (λ (z : ℕ). z < m) (without_lowest_op m h ∙ sym e) (rest_less m n)
