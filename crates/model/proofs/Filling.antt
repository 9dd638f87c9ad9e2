-- Loops over the first numbers: each turn stores one number, or unites a set with one member more. Assumes nothing.
use Rattle.model.specs.Kit.{◌≡◌, refl, sym, ap, ap₂, ◌∙◌, subst, Bool, true, false, List, ℕ, ◌+◌, ◌≤◌, ◌<◌, arith, ℕ_discrete, T, eqb, ltb, eqb_refl, length, set, length-set, bit_or, lt-ltb}
use Rattle.model.specs.Kit.{le-ltb, ltb-true, ltb-false, ne_eqb}
use Rattle.model.specs.{Lists.both, Lists.either, Lists.at, ValueSets.has, ValueSets.one_if, Inner.Filling.Filled, Inner.Filling.Gathered}
use Rattle.model.proofs.{Lists.of_T, Lists.both_l, Lists.at_set, Lists.at_set_other, Lists.both_true, Lists.both_false, Sets.has_none, Masks.has_or, Masks.has_one_if, Members.either_no}

-- ---- numbers that are stored
pub filled_begin : (slot : ℕ → ℕ) (P : ℕ → ℕ → Type 0) (l : List ℕ) → Filled slot P 0 l l
filled_begin slot P l = record { size = refl; here = λ v h. absurd (omega arith); other = λ j n. refl }

-- one more, at j
pub filled_turn : (slot : ℕ → ℕ) (P : ℕ → ℕ → Type 0) (old new : List ℕ) (i j w : ℕ) → Filled slot P i old new → j ≡ slot i → j < length old →
    ((v : ℕ) → v < i → slot v ≡ slot i → ⊥) → P i w → Filled slot P (i + 1) old (set new j w)
filled_turn slot P old new i j w r e h n q = record {
  size = length-set new j w ∙ r.size;
  here = λ v l. here v l (ℕ_discrete v i);
  other = λ k m.
      let z : i < i + 1 = omega arith in
      at_set_other new j w k (λ s. m i z (sym e ∙ sym s)) ∙ r.other k (λ v l s. let y : v < i + 1 = omega arith in m v y s);
}
  where
    stored : at (set new j w) (slot i) ≡ w
    stored = ap (at (set new j w)) (sym e) ∙ at_set new j w (omega (arith, r.size))

    here : (v : ℕ) → v < i + 1 → Dec (v ≡ i) → P v (at (set new j w) (slot v))
    here v l (yes s) = subst (λ (z : ℕ). P z (at (set new j w) (slot z))) (sym s) (subst (λ (z : ℕ). P i z) (sym stored) q)
    here v l (no m) =
        let k : v < i = omega arith in
        subst (λ (z : ℕ). P v z) (sym (at_set_other new j w (slot v) (λ s. n v k (s ∙ e)))) (r.here v k)

pub filled_end : (slot : ℕ → ℕ) (P : ℕ → ℕ → Type 0) (old new : List ℕ) (n i : ℕ) → n ≤ i → i ≤ n → Filled slot P i old new → Filled slot P n old new
filled_end slot P old new n i h l r = let e : i ≡ n = omega arith in subst (λ (k : ℕ). Filled slot P k old new) e r

-- ---- a set that is gathered
pub gathered_begin : (f : ℕ → Bool) → Gathered f 0 0
gathered_begin f = record { has_is = λ x. has_none x ∙ sym (ap (λ (b : Bool). both b (f x)) (le-ltb x 0 (omega arith))) }

-- one more: t has i alone, or nothing
pub gathered_more : (f : ℕ → Bool) (i s t : ℕ) → Gathered f i s → ((x : ℕ) → has t x ≡ both (f i) (eqb x i)) → Gathered f (i + 1) (bit_or s t)
gathered_more f i s t g e = record { has_is = λ x. has_or s t x ∙ ap₂ either (g.has_is x) (e x) ∙ go x (ℕ_discrete x i) }
  where
    go : (x : ℕ) → Dec (x ≡ i) → either (both (ltb x i) (f x)) (both (f i) (eqb x i)) ≡ both (ltb x (i + 1)) (f x)
    go x (yes q) =
        subst (λ (z : ℕ). either (both (ltb z i) (f z)) (both (f i) (eqb z i)) ≡ both (ltb z (i + 1)) (f z)) (sym q)
        (ap₂ (λ (c d : Bool). either (both c (f i)) (both (f i) d)) (le-ltb i i (omega arith)) (of_T (eqb i i) (eqb_refl i)) ∙ both_true (f i) ∙ ap (λ (c : Bool). both c (f i))
        (sym (lt-ltb i (i + 1) (omega arith))))
    go x (no n) =
        ap (λ (c : Bool). either (both (ltb x i) (f x)) (both (f i) c)) (ne_eqb x i n) ∙ ap (either (both (ltb x i) (f x))) (both_false (f i)) ∙ either_no (both (ltb x i) (f x))
        ∙ ap (λ (c : Bool). both c (f x)) (step (ltb x i) refl)
      where
        step : (c : Bool) → ltb x i ≡ c → ltb x i ≡ ltb x (i + 1)
        step true q = let l = ltb-true x i q in q ∙ sym (lt-ltb x (i + 1) (omega arith))
        step false q = let l = ltb-false x i q in q ∙ sym (le-ltb x (i + 1) (omega arith))

pub gathered_turn : (f : ℕ → Bool) (i s t : ℕ) → Gathered f i s → t ≡ one_if (f i) i → Gathered f (i + 1) (bit_or s t)
gathered_turn f i s t g e = gathered_more f i s t g (λ x. ap (λ (n : ℕ). has n x) e ∙ has_one_if (f i) i x)

pub gathered_end : (f : ℕ → Bool) (i n set : ℕ) → n ≤ i → i ≤ n → Gathered f i set → Gathered f n set
gathered_end f i n set h l g = let e : i ≡ n = omega arith in subst (λ (k : ℕ). Gathered f k set) e g

-- what such a set says
pub gathered_is : (f : ℕ → Bool) (n set x : ℕ) → Gathered f n set → x < n → has set x ≡ f x
gathered_is f n set x g h = g.has_is x ∙ ap (λ (b : Bool). both b (f x)) (lt-ltb x n h)

pub gathered_lt : (f : ℕ → Bool) (n set x : ℕ) → Gathered f n set → T (has set x) → x < n
gathered_lt f n set x g t = ltb-true x n (of_T (ltb x n) (both_l (ltb x n) (f x) (subst T (g.has_is x) t)))
