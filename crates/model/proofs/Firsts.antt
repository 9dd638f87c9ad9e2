-- The first n of sixteen sets. Assumes nothing.
use Rattle.model.specs.Kit.{◌≡◌, refl, sym, ◌∙◌, subst, Bool, true, false, List, ℕ, ◌^◌, ◌≤◌, ◌<◌, arith, T, ltb, length, take, get_or-take, length-take-le, ltb-true, ltb-false}
use Rattle.model.specs.{Lists.at, ValueSets.has, ValueSets.any_empty, ValueSets.Inside, Inner.Pruning.Sets}
use Rattle.model.proofs.{Lists.at_out, Lists.not_of, Sets.has_at_lt, Sets.empty_i, Sets.empty_e}

module _ (n : ℕ) (ds : List ℕ) (s : Sets 16 ds) (h : n ≤ 16) where
  pub take_length : length (take n ds) ≡ n
  take_length = length-take-le n ds (omega (arith, s.0))

  pub take_at : (x : ℕ) → x < n → at (take n ds) x ≡ at ds x
  unfolding at
  take_at x l = get_or-take n ds x 0 l

  pub take_sets : Sets n (take n ds)
  take_sets = (take_length, λ x. go x (ltb x n) refl)
    where
      go : (x : ℕ) (b : Bool) → ltb x n ≡ b → at (take n ds) x < 2 ^ 16
      go x true e = subst (λ (z : ℕ). z < 2 ^ 16) (sym (take_at x (ltb-true x n e))) (s.1 x)
      go x false e = subst (λ (z : ℕ). z < 2 ^ 16) (sym (at_out (take n ds) x (subst (λ (m : ℕ). m ≤ x) (sym take_length) (ltb-false x n e)))) (omega arith)

  pub take_e : (x v : ℕ) → T (has (at (take n ds) x) v) → (x < n) × T (has (at ds x) v)
  take_e x v t =
      let l : x < n = subst (λ (m : ℕ). x < m) take_length (has_at_lt (take n ds) x v t) in
      (l, subst (λ (z : ℕ). T (has z v)) (take_at x l) t)

  pub take_i : (x v : ℕ) → x < n → T (has (at ds x) v) → T (has (at (take n ds) x) v)
  take_i x v l t = subst (λ (z : ℕ). T (has z v)) (sym (take_at x l)) t

  pub take_inside : Inside (take n ds) ds
  take_inside x v t = (take_e x v t).1

  -- none of them is empty, or one is
  pub take_full : ((x : ℕ) → x < n → at ds x ≡ 0 → ⊥) → any_empty (take n ds) ≡ false
  take_full f = not_of (any_empty (take n ds)) (λ t. let r = empty_e (take n ds) t in let l : r.0 < n = subst (λ (m : ℕ). r.0 < m) take_length r.1 in f r.0 l (sym (take_at r.0 l) ∙ r.2))

  pub take_empty : (x : ℕ) → x < n → at ds x ≡ 0 → T (any_empty (take n ds))
  take_empty x l e = empty_i (take n ds) x (subst (λ (m : ℕ). x < m) (sym take_length) l) (take_at x l ∙ e)

  pub full_take : any_empty (take n ds) ≡ false → (x : ℕ) → x < n → at ds x ≡ 0 → ⊥
  full_take f x l e = subst T f (take_empty x l e)
