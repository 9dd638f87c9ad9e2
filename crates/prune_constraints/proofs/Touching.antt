-- The constraints, but those pruned by variable, that have one of some variables in their scope, as a number. Assumes nothing.
use Rattle.model.specs.Kit.{◌≡◌, sym, subst, Bool, inl, inr, ⊎_elim, List, ℕ, ◌+◌, ◌^◌, ◌≤◌, ◌<◌, arith, bit_or, or_lt, T, length}
use Rattle.model.specs.{Lists.any, Lists.at, Lists.both, Lists.below, ValueSets.has, ValueSets.mask_below, Problem.Problem}
use Rattle.model.proofs.Lists.{TExt, both_i, both_l, both_r, any_i, any_e, below_i}
use Rattle.model.proofs.{Sets.has_lt, Sets.has_mask, Sets.mask_lt, Sets.mask_ext, Members.or_i, Members.or_e}
use Rattle.arrays.specs.{Inner.Places.OTHERS, Inner.Tables.Linked}
use Rattle.prune_constraints.specs.Inner.Steps.{Touched}

unfoldable pub touched_of : List ℕ → ℕ → ℕ
touched_of numbers changed = mask_below 64 (λ k. any (λ x. both (has changed x) (has (at numbers (OTHERS + x)) k)) (below 16))

pub touched_lt : (numbers : List ℕ) (changed : ℕ) → touched_of numbers changed < 2 ^ 64
unfolding touched_of
touched_lt numbers changed = mask_lt 64 (λ k. any (λ x. both (has changed x) (has (at numbers (OTHERS + x)) k)) (below 16))

module _ {p : Problem} {numbers : List ℕ} (n : Linked p numbers) (h : length p.constraints ≤ 32) where
  others_lt : (x k : ℕ) → x < 16 → T (has (at numbers (OTHERS + x)) k) → k < 64
  others_lt x k l t = let q = has_lt (length p.constraints) (at numbers (OTHERS + x)) k (n.touching_few x l) t in omega arith

  pub touched_of_lem : (changed : ℕ) → ((x : ℕ) → T (has changed x) → x < 16) → Touched numbers changed (touched_of numbers changed)
  unfolding touched_of
  touched_of_lem changed few = record {
    touched_i = λ x k t q. subst T (sym (has_mask 64 one k (others_lt x k (few x t) q))) (any_i (hit k) (below 16) x (below_i 16 x (few x t))
        (both_i (has changed x) (has (at numbers (OTHERS + x)) k) t q));
    touched_e = λ k t.
        let r = any_e (hit k) (below 16) (subst T (has_mask 64 one k (has_lt 64 (mask_below 64 one) k (mask_lt 64 one) t)) t) in
        (r.0, both_l (has changed r.0) (has (at numbers (OTHERS + r.0)) k) r.2, both_r (has changed r.0) (has (at numbers (OTHERS + r.0)) k) r.2);
  }
    where
      hit : ℕ → ℕ → Bool
      hit k x = both (has changed x) (has (at numbers (OTHERS + x)) k)

      one : ℕ → Bool
      one k = any (hit k) (below 16)

  -- those of two sets of variables, with others besides
  pub touched_parts : (a b t w : ℕ) → ((x : ℕ) → T (has a x) → x < 16) → ((x : ℕ) → T (has b x) → x < 16) → w < 2 ^ 64 → t < 2 ^ 64 → Touched numbers (bit_or a b) t →
      bit_or w t ≡ bit_or (bit_or w (touched_of numbers a)) (touched_of numbers b)
  touched_parts a b t w fa fb hw ht u = mask_ext 64 (bit_or w t) (bit_or (bit_or w ta) tb) (or_lt 64 w t hw ht)
      (or_lt 64 (bit_or w ta) tb (or_lt 64 w ta hw (touched_lt numbers a)) (touched_lt numbers b)) (λ k l. TExt (has (bit_or w t) k) (has (bit_or (bit_or w ta) tb) k) (to k) (back k))
    where
      ta : ℕ
      ta = touched_of numbers a

      tb : ℕ
      tb = touched_of numbers b

      to : (k : ℕ) → T (has (bit_or w t) k) → T (has (bit_or (bit_or w ta) tb) k)
      to k q =
          or_i (bit_or w ta) tb k
          (⊎_elim (λ i. inl (or_i w ta k (inl i)))
          (λ i. let x = u.touched_e k i in ⊎_elim (λ j. inl (or_i w ta k (inr ((touched_of_lem a fa).touched_i x.0 k j x.2)))) (λ j. inr ((touched_of_lem b fb).touched_i x.0 k j x.2))
          (or_e a b x.0 x.1)) (or_e w t k q))

      back : (k : ℕ) → T (has (bit_or (bit_or w ta) tb) k) → T (has (bit_or w t) k)
      back k q =
          or_i w t k
          (⊎_elim (λ i. ⊎_elim inl (λ j. let x = (touched_of_lem a fa).touched_e k j in inr (u.touched_i x.0 k (or_i a b x.0 (inl x.1)) x.2)) (or_e w ta k i))
          (λ i. let x = (touched_of_lem b fb).touched_e k i in inr (u.touched_i x.0 k (or_i a b x.0 (inr x.1)) x.2)) (or_e (bit_or w ta) tb k q))
