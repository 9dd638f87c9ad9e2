-- Pairs, their numbers and their codes, in a problem that questions 1 to 14 passed. Assumes nothing.
use Rattle.model.specs.Kit.{◌≡◌, refl, sym, ap, ap₂, ◌∙◌, subst, Bool, true, false, List, inl, inr, ℕ, ◌+◌, ◌*◌, ◌/◌, ◌%◌, ◌^◌, ◌≤◌, ◌<◌, mul-le-mul_right, lt_of_lt_of_le, arith, T, eqb, length}
use Rattle.model.specs.{Lists.at, Lists.all, Lists.below, ValueSets.has, Problem.Problem, Problem.pair, Problem.is_pair, Problem.constraint_at, Sheet.permutes_pairs, Sheet.distinct}
use native.Mathlib.Nat.{div-add-mod', div-lt_iff_lt-mul, mod-lt}
use lib.Pow.{pow_mono}
use Rattle.model.specs.Inner.WellFormed.{Stated, GoodConstraint}
use Rattle.model.proofs.{Lists.both_l, Lists.all_e, Lists.below_i, Pairs.init_lt, Pairs.pair_of, Pairs.pair_lt, Pairs.pair_first, Pairs.pair_second, Pairs.is_pair_i, Pairs.is_pair_lt}
use Rattle.model.proofs.{Pairs.is_pair_has}
use Rattle.arrays.specs.Inner.Layout.{pair_code_of}
use Rattle.arrays.proofs.Links.{is_one}
use Rattle.sheet_table.specs.Inner.Forbidden.{number_of, PairCode, MaybePair, Decoded}
use Rattle.sheet_table.specs.Inner.Forbidden.{Coded}

-- ---- the code of a pair number
pub code_small : (q d : ℕ) → 1 ≤ d → d ≤ 16 → q < 12 * d → pair_code_of d q < 192
code_small q d h k l = omega (arith, (div-lt_iff_lt-mul h).1 l, mod-lt q h)

pub code_inj : (q r d : ℕ) → 1 ≤ d → d ≤ 16 → pair_code_of d q ≡ pair_code_of d r → q ≡ r
code_inj q r d h k e =
    let a : q % d < d = mod-lt q h in
    let b : r % d < d = mod-lt r h in
    let x : q / d ≡ r / d = omega arith in
    let y : q % d ≡ r % d = omega arith in
    sym (div-add-mod' q d) ∙ ap₂ (λ (i j : ℕ). i * d + j) x y ∙ div-add-mod' r d

module _ (p : Problem) (w : Stated p) where
  pub good : (k : ℕ) → k < length p.constraints → GoodConstraint p (constraint_at p k)
  good k h = w.constrained (constraint_at p k) (is_one p k h)

  -- ---- initial sets
  pub init_16 : (x v : ℕ) → x < p.variables → T (has (at p.initial x) v) → v < 16
  init_16 x v h t = omega (arith, init_lt p w.narrow x v h t, w.sixteen)

  pub init_small : (x : ℕ) → x < p.variables → at p.initial x < 2 ^ 16
  init_small x h = lt_of_lt_of_le (w.narrow x h) (pow_mono w.sixteen)

  -- ---- pairs as numbers
  pub div_small : (q : ℕ) → q < p.variables * p.values → q / p.values < p.variables
  div_small q h = (div-lt_iff_lt-mul w.one).1 h

  -- ---- codes
  pub code_value : (a : ℕ) → PairCode p a → a % 16 < p.values
  code_value a h = init_lt p w.narrow (a / 16) (a % 16) h.0 h.1

  pub code_lt : (a : ℕ) → PairCode p a → number_of p a < p.variables * p.values
  code_lt a h = pair_lt p (a / 16) (a % 16) h.0 (code_value a h)

  pub variable_lt : (a : ℕ) → MaybePair p a → a / 16 < 16
  variable_lt a (inl n) = omega arith
  variable_lt a (inr c) = omega (arith, c.0, w.few)

  -- 255 numbers no pair
  pub none_out : p.variables * p.values ≤ number_of p 255
  unfolding pair
  none_out = omega (arith, mul-le-mul_right p.values w.few)

  -- a code that numbers the pair (x, v) has that variable and that value
  pub code_is : (a x v : ℕ) → MaybePair p a → x < p.variables → v < p.values → pair p x v ≡ number_of p a → (a / 16 ≡ x) × (a % 16 ≡ v)
  code_is a x v (inl n) h l e = absurd (let o : pair p x v ≡ number_of p 255 = e ∙ ap (number_of p) n in omega (arith, pair_lt p x v h l, none_out))
  code_is a x v (inr c) h l e = (sym (pair_first p x v (a / 16) (a % 16) l (code_value a c) e), sym (pair_second p x v (a / 16) (a % 16) l (code_value a c) e))

  pub code_16 : (a x v : ℕ) → a ≡ 16 * x + v → v < 16 → (a / 16 ≡ x) × (a % 16 ≡ v)
  code_16 a x v e h = (omega arith, omega arith)

  pub code_pair : (x v : ℕ) → x < p.variables → T (has (at p.initial x) v) → PairCode p (16 * x + v)
  code_pair x v h t =
      let c = code_16 (16 * x + v) x v refl (init_16 x v h t) in
      (subst (λ (n : ℕ). n < p.variables) (sym c.0) h, subst T (sym (ap₂ (λ (n k : ℕ). has (at p.initial n) k) c.0 c.1)) t)

  -- ---- a table that permutes the pairs
  module _ (g : List ℕ) (t : T (permutes_pairs p g)) where
    stays : (b : Bool) (q : ℕ) → T b → T (elim b [ true ↦ is_pair p (at g q) | false ↦ eqb (at g q) q ]) → T (is_pair p (at g q))
    stays true q b h = h
    stays false q b h = absurd b

    pub image_pair : (q : ℕ) → T (is_pair p q) → T (is_pair p (at g q))
    unfolding permutes_pairs
    image_pair q h =
        stays (is_pair p q) q h
        (all_e (λ q. elim (is_pair p q) [ true ↦ is_pair p (at g q) | false ↦ eqb (at g q) q ]) (below (p.variables * p.values))
        (both_l (all (λ q. elim (is_pair p q) [ true ↦ is_pair p (at g q) | false ↦ eqb (at g q) q ]) (below (p.variables * p.values))) (distinct g) t) q
        (below_i (p.variables * p.values) q (is_pair_lt p q h)))

    -- the decoded images number the images
    module _ (codes : List ℕ) (d : Decoded p g codes) where
      whole : (x v : ℕ) → x < p.variables → T (has (at p.initial x) v) → (at codes (16 * x + v) / 16 ≡ at g (pair p x v) / p.values) × (at codes (16 * x + v) % 16 ≡ at g (pair p x v) % p.values)
      whole x v h i =
          let q = at g (pair p x v) in
          let small : q % p.values < 16 = omega (arith, mod-lt q w.one, w.sixteen) in
          code_16 (at codes (16 * x + v)) (q / p.values) (q % p.values) (d x v h i) small

      pub decoded_number : (x v : ℕ) → x < p.variables → T (has (at p.initial x) v) → number_of p (at codes (16 * x + v)) ≡ at g (pair p x v)
      decoded_number x v h i = let r = whole x v h i in ap₂ (pair p) r.0 r.1 ∙ pair_of p (at g (pair p x v))

      pub decoded_coded : Coded p codes
      decoded_coded x v h i =
          let r = whole x v h i in
          let t = image_pair (pair p x v) (is_pair_i p w.narrow x v h i) in (
            subst (λ (y : ℕ). y < p.variables) (sym r.0) (div_small (at g (pair p x v)) (is_pair_lt p (at g (pair p x v)) t)),
            subst T (sym (ap₂ (λ (y u : ℕ). has (at p.initial y) u) r.0 r.1)) (is_pair_has p (at g (pair p x v)) t),
          )
