-- Which constraints can lie among three variables. Assumes nothing.
use Rattle.model.specs.Kit.{◌≡◌, refl, sym, ap₂, ◌∙◌, subst, Bool, true, false, List, [], ◌∷◌, Memᴰ, Memᴰ-head, Memᴰ-cast, ◌⊎◌, inl, inr, ℕ, ◌^◌, ◌≤◌, ◌<◌, lt_of_le_of_lt, arith, T, eqb}
use Rattle.model.specs.Kit.{ltb, eqb_refl, eqb→eq, ltb→lt, length, bit_and, bit_or, and_le_l, or_lt}
use Rattle.model.specs.{Lists.all, Lists.any, Lists.at, Lists.either, Lists.ascending, ValueSets.has, Problem.Problem, Problem.constraint_at}
use Rattle.model.proofs.{Lists.either_l, Lists.either_r, Lists.all_e, Lists.any_e, Lists.any_i, Masks.has_or}
use Rattle.sheet_table.specs.Inner.Table.{Framed}
use Rattle.sheet_table.proofs.Codes.{good}
use Rattle.sheet_carried.proofs.Blocks.{three}

abbrev pub Among : ℕ → ℕ → ℕ → ℕ → Type 0
Among x y z u = (u ≡ x) ⊎ ((u ≡ y) ⊎ (u ≡ z))

among : (x y z u : ℕ) → T (any (eqb u) (x ∷ y ∷ z ∷ [])) → Among x y z u
among x y z u t = let r = any_e (eqb u) (x ∷ y ∷ z ∷ []) t in three x y z u (Memᴰ-cast (eqb→eq u r.0 r.2) r.1)

pub first_two : (b c : Bool) → T (elim b [ true ↦ c | false ↦ false ]) → T b × T c
first_two true c t = (tt, t)
first_two false c t = absurd t

pub ascends : (u v w : ℕ) → T (ascending (u ∷ v ∷ w ∷ [])) → (u < v) × (v < w)
unfolding ascending
ascends u v w t =
    let r = first_two (ltb u v) (ascending (v ∷ w ∷ [])) t in
    (ltb→lt u v r.0, ltb→lt v w (first_two (ltb v w) true r.1).0)

module _ (x y z : ℕ) where
  -- one of the three is in a scope that has a variable
  some_in : (scope : List ℕ) → 1 ≤ length scope → ((u : ℕ) → Memᴰ u scope → Among x y z u) → T (either (either (any (eqb x) scope) (any (eqb y) scope)) (any (eqb z) scope))
  some_in [] h f = absurd (omega arith)
  some_in (u ∷ l) h f = go (f u (Memᴰ-head refl))
    where
      it : (v : ℕ) → u ≡ v → T (any (eqb v) (u ∷ l))
      it v e = any_i (eqb v) (u ∷ l) v (Memᴰ-head (sym e)) (eqb_refl v)

      go : Among x y z u → T (either (either (any (eqb x) (u ∷ l)) (any (eqb y) (u ∷ l))) (any (eqb z) (u ∷ l)))
      go (inl e) = either_l (either (any (eqb x) (u ∷ l)) (any (eqb y) (u ∷ l))) (any (eqb z) (u ∷ l)) (either_l (any (eqb x) (u ∷ l)) (any (eqb y) (u ∷ l)) (it x e))
      go (inr (inl e)) = either_l (either (any (eqb x) (u ∷ l)) (any (eqb y) (u ∷ l))) (any (eqb z) (u ∷ l)) (either_r (any (eqb x) (u ∷ l)) (any (eqb y) (u ∷ l)) (it y e))
      go (inr (inr e)) = either_r (either (any (eqb x) (u ∷ l)) (any (eqb y) (u ∷ l))) (any (eqb z) (u ∷ l)) (it z e)

-- the constraints on each of three variables
module _ (p : Problem) (numbers : List ℕ) (f : Framed p numbers) (x y z : ℕ) (hx : x < 16) (hy : y < 16) (hz : z < 16) where
  few : (v : ℕ) → v < 16 → at numbers v < 2 ^ length p.constraints
  few v h = f.numbered.touching_few v h

  pub all_few : bit_or (bit_or (at numbers x) (at numbers y)) (at numbers z) < 2 ^ length p.constraints
  all_few = or_lt (length p.constraints) _ (at numbers z) (or_lt (length p.constraints) (at numbers x) (at numbers y) (few x hx) (few y hy)) (few z hz)

  pub two_few : bit_or (bit_or (bit_and (at numbers x) (at numbers y)) (bit_and (at numbers x) (at numbers z))) (bit_and (at numbers y) (at numbers z)) < 2 ^ length p.constraints
  two_few =
      let common : (s t : ℕ) → s < 2 ^ length p.constraints → bit_and s t < 2 ^ length p.constraints = λ s t h. lt_of_le_of_lt (and_le_l s t) h in
      or_lt (length p.constraints) _ (bit_and (at numbers y) (at numbers z)) (or_lt (length p.constraints) (bit_and (at numbers x) (at numbers y)) (bit_and (at numbers x) (at numbers z))
      (common _ _ (few x hx)) (common _ _ (few x hx))) (common _ _ (few y hy))

  -- every constraint whose scope lies among the three is one of them
  pub all_has : (k : ℕ) → k < length p.constraints → T (all (λ u. any (eqb u) (x ∷ y ∷ z ∷ [])) (constraint_at p k).scope) → T (has (bit_or (bit_or (at numbers x) (at numbers y)) (at numbers z)) k)
  all_has k h a =
      let scope = (constraint_at p k).scope in
      let touched : (v : ℕ) → v < 16 → any (eqb v) scope ≡ has (at numbers v) k = λ v l. sym (f.numbered.touching v k l h) in
      subst T (ap₂ either (ap₂ either (touched x hx) (touched y hy) ∙ sym (has_or (at numbers x) (at numbers y) k)) (touched z hz) ∙ sym
      (has_or (bit_or (at numbers x) (at numbers y)) (at numbers z) k))
      (some_in x y z scope (good p f.stated k h).some (λ v m. among x y z v (all_e (λ u. any (eqb u) (x ∷ y ∷ z ∷ [])) scope a v m)))
