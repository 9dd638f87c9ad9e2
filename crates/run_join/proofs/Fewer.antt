-- Fewer of a list: those that pass a test that fewer pass. Assumes nothing.
use Rattle.model.specs.Kit.{◌≡◌, refl, ap, subst, Bool, true, false, List, [], ◌∷◌, map, Memᴰ, Memᴰ-head, Memᴰ-tail, Memᴰ-not_nil, Memᴰ-map, ℕ, ◌≤◌, ◌<◌, arith, T, length}
use Rattle.model.specs.Lists.{keep, below}
use Rattle.model.proofs.Lists.{T_of, of_T, not_of, of_not, keep_yes, keep_no, keep_all, below_i, length_below}
use Rattle.run_cut.specs.Parts.{after}
use Rattle.run_cut.proofs.Parts.{after_trans, after_not}
use Rattle.run_join.specs.Join.{reach_at, heads_in}

module _ {A : Type 0} (p q : A → Bool) (f : (y : A) → T (q y) → T (p y)) where
  pub keep_le : (ks : List A) → length (keep q ks) ≤ length (keep p ks)
  unfolding keep
  keep_le [] = omega arith
  keep_le (x ∷ ks) = go (keep_le ks) (q x) refl (p x) refl
    where
      go : length (keep q ks) ≤ length (keep p ks) → (c : Bool) → q x ≡ c → (d : Bool) → p x ≡ d → length (keep q (x ∷ ks)) ≤ length (keep p (x ∷ ks))
      go ih true e true h = let a = ap length (keep_yes q x ks e) in let b = ap length (keep_yes p x ks h) in omega arith
      go ih true e false h = absurd (of_not (p x) h (f x (T_of (q x) e)))
      go ih false e true h = let a = ap length (keep_no q x ks e) in let b = ap length (keep_yes p x ks h) in omega arith
      go ih false e false h = let a = ap length (keep_no q x ks e) in let b = ap length (keep_no p x ks h) in omega arith

  pub keep_less : (ks : List A) (x : A) → Memᴰ x ks → T (p x) → (T (q x) → ⊥) → length (keep q ks) < length (keep p ks)
  keep_less [] x m t u = absurd (Memᴰ-not_nil m)
  keep_less (y ∷ ks) x (Memᴰ-head e) t u =
      let a = ap length (keep_no q y ks (subst (λ (z : A). q z ≡ false) e (not_of (q x) u))) in
      let b = ap length (keep_yes p y ks (subst (λ (z : A). p z ≡ true) e (of_T (p x) t))) in
      let c = keep_le ks in
      omega arith
  keep_less (y ∷ ks) x (Memᴰ-tail m) t u = go (keep_less ks x m t u) (q y) refl (p y) refl
    where
      go : length (keep q ks) < length (keep p ks) → (c : Bool) → q y ≡ c → (d : Bool) → p y ≡ d → length (keep q (y ∷ ks)) < length (keep p (y ∷ ks))
      go ih true e true h = let a = ap length (keep_yes q y ks e) in let b = ap length (keep_yes p y ks h) in omega arith
      go ih true e false h = absurd (of_not (p y) h (f y (T_of (q y) e)))
      go ih false e true h = let a = ap length (keep_no q y ks e) in let b = ap length (keep_yes p y ks h) in omega arith
      go ih false e false h = let a = ap length (keep_no q y ks e) in let b = ap length (keep_no p y ks h) in omega arith

-- ---- the heads that reach further than a path
abbrev pub further : List ℕ → List ℕ → ℕ
further l s = length (keep (after s) (map (reach_at l) (below (heads_in l))))

pub fewer : (l s : List ℕ) (k : ℕ) → k < heads_in l → T (after s (reach_at l k)) → further l (reach_at l k) < further l s
fewer l s k i t =
    keep_less (after s) (after (reach_at l k)) (λ r u. after_trans s (reach_at l k) r t u) (map (reach_at l) (below (heads_in l))) (reach_at l k)
    (Memᴰ-map (reach_at l) (below_i (heads_in l) k i)) t (after_not (reach_at l k))

pub further_few : (l s : List ℕ) → further l s ≤ heads_in l
further_few l s =
    let ks = map (reach_at l) (below (heads_in l)) in
    let a = keep_le (λ x. true) (after s) (λ x t. tt) ks in
    let b = ap length (keep_all (λ x. true) ks (λ x m. tt)) in
    let c = length_below (reach_at l) (heads_in l) in
    omega arith
