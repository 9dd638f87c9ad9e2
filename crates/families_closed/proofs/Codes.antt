-- The codes of pairs in the images, and what a product that is missing or not is read from. Assumes nothing.
use Rattle.model.specs.Kit.{◌≡◌, sym, ap, ap₂, ◌∙◌, subst, true, false, ⊎_elim, List, [], ℕ, ◌+◌, ◌*◌, ◌/◌, ◌%◌, ◌≤◌, ◌<◌, mul-le-mul_right, dec_lt, arith, T, length}
use Rattle.model.specs.{Lists.any, Lists.at, Problem.Problem, Problem.pair, Problem.symmetry_at}
use native.Mathlib.Nat.{div-lt_iff_lt-mul, mod-lt, div-add-mod'}
use Rattle.model.proofs.Lists.{of_T, not_of, either_e, either_l, either_r, any_e, any_i, mem_get_d, place_of}
use Rattle.arrays.specs.Inner.Layout.{pair_code_of}
use Rattle.families.specs.Families.{makes, moves_nothing}
use Rattle.families.proofs.Closed.{makes_i, makes_e, nothing_i, nothing_e}
use Rattle.families_closed.specs.{Open.made, Inner.Held.Held}
use Rattle.model.proofs.Symmetry as S

module _ {p : Problem} {images : List ℕ} {variables values : ℕ} (h : Held p images variables values) where
  pub held_bounds : (1 ≤ values) × (values ≤ 16) × (variables ≤ 12) × (length p.symmetries ≤ 136)
  held_bounds = let w = h.good in (omega (arith, w.one, h.values_is), omega (arith, w.sixteen, h.values_is), omega (arith, w.few, h.variables_is), h.some)

  pub held_size : variables * values ≤ 192
  held_size = let b = held_bounds in omega (arith, mul-le-mul_right values b.2)

  size_is : variables * values ≡ p.variables * p.values
  size_is = ap₂ (λ (n d : ℕ). n * d) h.variables_is h.values_is

  pub square_few : {n : ℕ} → n ≡ length p.symmetries → n * n ≤ 18496
  square_few {n} e = let l : n ≤ 136 = omega (arith, h.some) in omega (arith, mul-le-mul_right n l)

  -- the code of a number of the problem
  pub code_parts : (q : ℕ) → q < variables * values → (q / values < variables) × (q % values < values)
  code_parts q l = ((div-lt_iff_lt-mul held_bounds.0).1 l, mod-lt q held_bounds.0)

  pub code_lt : (q : ℕ) → q < variables * values → pair_code_of values q < 192
  code_lt q l = let c = code_parts q l in let b = held_bounds in omega (arith, c.0, c.1, b.1, b.2)

  pub code_same : (q r : ℕ) → q < variables * values → r < variables * values → pair_code_of values q ≡ pair_code_of values r → q ≡ r
  code_same q r l k e =
      let c = code_parts q l in
      let d = code_parts r k in
      let b = held_bounds in
      let x : q / values ≡ r / values = omega (arith, c.1, d.1, b.1) in
      let v : q % values ≡ r % values = omega arith in
      sym (div-add-mod' q values) ∙ ap₂ (λ (y u : ℕ). y * values + u) x v ∙ div-add-mod' r values

  -- where a symmetry takes a number, and its code in the images
  module _ (e : ℕ) (le : e < length p.symmetries) where
    pub goes_lt : (q : ℕ) → q < variables * values → at (symmetry_at p e) q < variables * values
    goes_lt q l = subst (λ (n : ℕ). at (symmetry_at p e) q < n) (sym size_is) (S.image_lt p h.good (symmetry_at p e) (h.good.symmetric (symmetry_at p e) (mem_get_d p.symmetries e [] le)) q
        (subst (λ (n : ℕ). q < n) size_is l))

    pub code_at : (q : ℕ) → q < variables * values → at images (192 * e + pair_code_of values q) ≡ pair_code_of values (at (symmetry_at p e) q)
    unfolding pair
    code_at q l =
        let c = code_parts q l in
        let x : q / values < p.variables = subst (λ (n : ℕ). q / values < n) h.variables_is c.0 in
        let v : q % values < p.values = subst (λ (n : ℕ). q % values < n) h.values_is c.1 in
        ap (at images) (let z : 192 * e + pair_code_of values q ≡ 192 * e + 16 * (q / values) + q % values = omega arith in z)
        ∙ h.imaged e (q / values) (q % values) le x v
        ∙ ap₂ (λ (d r : ℕ). pair_code_of d (at (symmetry_at p e) r)) (sym h.values_is) (ap (λ (d : ℕ). q / values * d + q % values) (sym h.values_is) ∙ div-add-mod' q values)

    -- what `goes` is lent, and what it answers
    pub goes_asked : (q r : ℕ) → q < variables * values → r ≡ pair_code_of values q → (e < 136) × (r < 192) × (at images (192 * e + r) < 192)
    goes_asked q r l z = (
      omega (arith, held_bounds.3),
      omega (arith, z, code_lt q l),
      subst (λ (k : ℕ). at images (192 * e + k) < 192) (sym z) (subst (λ (k : ℕ). k < 192) (sym (code_at q l)) (code_lt (at (symmetry_at p e) q) (goes_lt q l))),
    )

    pub goes_is : (q r s : ℕ) → q < variables * values → r ≡ pair_code_of values q → s ≡ at images (192 * e + r) → s ≡ pair_code_of values (at (symmetry_at p e) q)
    goes_is q r s l z y = y ∙ ap (λ (k : ℕ). at images (192 * e + k)) z ∙ code_at q l

  -- two, one after the other; c takes a number elsewhere, or it does not stay
  module _ (a b : ℕ) (la : a < length p.symmetries) (lb : b < length p.symmetries) where
    both_lt : (q : ℕ) → q < variables * values → at (symmetry_at p b) (at (symmetry_at p a) q) < variables * values
    both_lt q l = goes_lt b lb (at (symmetry_at p a) q) (goes_lt a la q l)

    module _ (q t : ℕ) (l : q < variables * values) (y : t ≡ pair_code_of values (at (symmetry_at p b) (at (symmetry_at p a) q))) where
      pub agree_turn : (c u : ℕ) → c < length p.symmetries → u ≡ pair_code_of values (at (symmetry_at p c) q) → t ≡ u → at (symmetry_at p b) (at (symmetry_at p a) q) ≡ at (symmetry_at p c) q
      agree_turn c u lc z e = code_same (at (symmetry_at p b) (at (symmetry_at p a) q)) (at (symmetry_at p c) q) (both_lt q l) (goes_lt c lc q l) (sym y ∙ e ∙ z)

      pub agree_not : (c u : ℕ) → u ≡ pair_code_of values (at (symmetry_at p c) q) → (t ≡ u → ⊥) → false ≡ makes p (symmetry_at p a) (symmetry_at p b) (symmetry_at p c)
      agree_not c u z n = sym (not_of (makes p (symmetry_at p a) (symmetry_at p b) (symmetry_at p c))
          (λ k. n (y ∙ ap (pair_code_of values) (makes_e p (symmetry_at p a) (symmetry_at p b) (symmetry_at p c) k q (subst (λ (m : ℕ). q < m) size_is l)) ∙ sym z)))

      pub stay_turn : (u : ℕ) → u ≡ pair_code_of values q → t ≡ u → at (symmetry_at p b) (at (symmetry_at p a) q) ≡ q
      stay_turn u z e = code_same (at (symmetry_at p b) (at (symmetry_at p a) q)) q (both_lt q l) l (sym y ∙ e ∙ z)

      pub stay_not : (u : ℕ) → u ≡ pair_code_of values q → (t ≡ u → ⊥) → false ≡ moves_nothing p (symmetry_at p a) (symmetry_at p b)
      stay_not u z n = sym (not_of (moves_nothing p (symmetry_at p a) (symmetry_at p b)) (λ k. n
          (y ∙ ap (pair_code_of values) (nothing_e p (symmetry_at p a) (symmetry_at p b) k q (subst (λ (m : ℕ). q < m) size_is l)) ∙ sym z)))

    pub agree_all : (c q : ℕ) → variables * values ≤ q → ((k : ℕ) → k < q → at (symmetry_at p b) (at (symmetry_at p a) k) ≡ at (symmetry_at p c) k) → true ≡ makes p (symmetry_at p a) (symmetry_at p b)
        (symmetry_at p c)
    agree_all c q l i = sym
        (of_T (makes p (symmetry_at p a) (symmetry_at p b) (symmetry_at p c)) (makes_i p (symmetry_at p a) (symmetry_at p b) (symmetry_at p c) (λ k m. i k (omega (arith, size_is)))))

    pub stay_all : (q : ℕ) → variables * values ≤ q → ((k : ℕ) → k < q → at (symmetry_at p b) (at (symmetry_at p a) k) ≡ k) → true ≡ moves_nothing p (symmetry_at p a) (symmetry_at p b)
    stay_all q l i = sym (of_T (moves_nothing p (symmetry_at p a) (symmetry_at p b)) (nothing_i p (symmetry_at p a) (symmetry_at p b) (λ k m. i k (omega (arith, size_is)))))

-- one number more
pub and_last : (q : ℕ) (P : ℕ → Type 0) → ((k : ℕ) → k < q → P k) → P q → (k : ℕ) → k < q + 1 → P k
and_last q P h z k l = go (dec_lt k q)
  where
    go : Dec (k < q) → P k
    go (yes a) = h k a
    go (no a) = subst P (let e : q ≡ k = omega arith in e) z

-- ---- a product, made or not
module _ (p : Problem) (a b : ℕ) where
  pub made_still : true ≡ moves_nothing p (symmetry_at p a) (symmetry_at p b) → true ≡ made p a b
  unfolding made
  made_still e = sym (of_T (made p a b) (either_l (moves_nothing p (symmetry_at p a) (symmetry_at p b)) (any (makes p (symmetry_at p a) (symmetry_at p b)) p.symmetries) (subst T e tt)))

  pub made_one : (c : ℕ) → c < length p.symmetries → true ≡ makes p (symmetry_at p a) (symmetry_at p b) (symmetry_at p c) → true ≡ made p a b
  unfolding made
  made_one c l e = sym (of_T (made p a b) (either_r (moves_nothing p (symmetry_at p a) (symmetry_at p b)) (any (makes p (symmetry_at p a) (symmetry_at p b)) p.symmetries)
      (any_i (makes p (symmetry_at p a) (symmetry_at p b)) p.symmetries (symmetry_at p c) (mem_get_d p.symmetries c [] l) (subst T e tt))))

  pub made_not : false ≡ moves_nothing p (symmetry_at p a) (symmetry_at p b) → ((k : ℕ) → k < length p.symmetries → makes p (symmetry_at p a) (symmetry_at p b) (symmetry_at p k) ≡ false)
      → false ≡ made p a b
  unfolding made
  made_not e h =
      let f = makes p (symmetry_at p a) (symmetry_at p b) in
      sym (not_of (made p a b) (λ t. ⊎_elim {C = ⊥} (λ r. subst T (sym e) r) (λ r. let q = any_e f p.symmetries r in let i = place_of p.symmetries q.0 [] q.1 in subst T
      (ap f (sym i.2) ∙ h i.0 i.1) q.2) (either_e (moves_nothing p (symmetry_at p a) (symmetry_at p b)) (any f p.symmetries) t)))
