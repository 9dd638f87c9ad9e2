-- Every solution is reached from a leader by symmetries, one after another, and nothing else is. Assumes nothing.
use Rattle.model.specs.Kit.{◌≡◌, sym, ap, ap₂, ◌∙◌, subst, ◌↔◌, ◌⊎◌, inl, inr, Bool, List, [], ◌∷◌, Memᴰ, ℕ, zero, suc, ◌+◌, ◌*◌, ◌^◌, ◌≤◌, ◌<◌, not-suc-le-zero, mul-le-mul_right, arith, T}
use Rattle.model.specs.Kit.{not_T, length}
use Rattle.model.specs.Claims.{is_leader, leaders, Chain, here, step}
use Rattle.model.specs.{Lists.both, Lists.any, Lists.at, Lists.earlier, Problem.Problem, Problem.is_solution, Problem.assignments, Problem.takes, Inner.WellFormed.WellFormed}
use mathlib.Core.Logic.{∥∥₁_elim}
use native.Mathlib.Nat.{pow-suc}
use lib.Dec.{T_prop}
use Rattle.model.proofs.Lists.{both_i, both_l, both_r, TDec, stable, any_e, keep_i, keep_e, earlier_e}
use Rattle.model.proofs.{Tree.solution_e, Leaders.sol_small, Leaders.sol_drawn}

-- ---- a list as a number with base-16 digits: what reads earlier is smaller
num : List ℕ → ℕ
num [] = 0
num (x ∷ xs) = x * 16 ^ length xs + num xs

num_lt : (xs : List ℕ) → ((i : ℕ) → i < length xs → at xs i < 16) → num xs < 16 ^ length xs
unfolding num at
num_lt [] h = omega arith
num_lt (x ∷ xs) h =
    let r : num xs < 16 ^ length xs = num_lt xs (λ i l. h (suc i) (omega arith)) in
    let d : x < 16 = h 0 (omega arith) in
    omega (arith, mul-le-mul_right (16 ^ length xs) d, pow-suc 16 (length xs))

num_earlier : (t s : List ℕ) → length t ≡ length s → ((i : ℕ) → i < length t → at t i < 16) → T (earlier t s) → num t < num s
unfolding num at earlier
num_earlier [] s e h k = absurd k
num_earlier (x ∷ t) [] e h k = absurd k
num_earlier (x ∷ t) (y ∷ s) e h k = go (num_earlier t s (omega arith) (λ i l. h (suc i) (omega arith))) (earlier_e x y t s k)
  where
    go : (T (earlier t s) → num t < num s) → (x < y) ⊎ ((x ≡ y) × T (earlier t s)) → x * 16 ^ length t + num t < y * 16 ^ length s + num s
    go ih (inr q) =
        let r : num t < num s = ih q.1 in
        let c : x * 16 ^ length t ≡ y * 16 ^ length s = ap₂ (λ (a n : ℕ). a * 16 ^ n) q.0 (omega arith) in
        omega arith
    go ih (inl l) =
        let n : length s ≡ length t = omega arith in
        let r : num t < 16 ^ length t = num_lt t (λ i b. h (suc i) (omega arith)) in
        let c : y * 16 ^ length s ≡ y * 16 ^ length t = ap (λ (m : ℕ). y * 16 ^ m) n in
        let d : suc x * 16 ^ length t ≤ y * 16 ^ length t = mul-le-mul_right (16 ^ length t) l in
        omega arith

-- ---- from a leader to each solution
module _ (p : Problem) (w : WellFormed p) (rows : List (List ℕ)) (listed : rows ≡ leaders p) where
  row_i : (s : List ℕ) → T (is_leader earlier p s) → T (is_solution p s) → Memᴰ s rows
  row_i s t sol = subst (Memᴰ s) (sym listed) (keep_i (is_leader earlier p) (assignments p.initial) s (sol_drawn p w s sol) t)

  row_e : (l : List ℕ) → Memᴰ l rows → T (is_solution p l)
  row_e l m = both_l (is_solution p l) _ (keep_e (is_leader earlier p) (assignments p.initial) l (subst (Memᴰ l) listed m)).1

  abbrev beats : List ℕ → List ℕ → List ℕ → Bool
  beats s g t = both (is_solution p t) (both (earlier t s) (takes p g t s))

  beaten : (s : List ℕ) → T (is_solution p s) → (T (is_leader earlier p s) → ⊥) → T (any (λ g. any (beats s g) (assignments p.initial)) p.symmetries)
  beaten s sol n =
      stable (any (λ g. any (beats s g) (assignments p.initial)) p.symmetries)
      (λ f. n (both_i (is_solution p s) _ sol (not_T (any (λ g. any (beats s g) (assignments p.initial)) p.symmetries) f)))

  reach : (k : ℕ) (s : List ℕ) → num s < k → T (is_solution p s) → (l : List ℕ) × Memᴰ l rows × Chain earlier p l s
  reach zero s h sol = absurd (not-suc-le-zero h)
  reach (suc k) s h sol = go (reach k) (TDec (is_leader earlier p s))
    where
      go : ((t : List ℕ) → num t < k → T (is_solution p t) → (l : List ℕ) × Memᴰ l rows × Chain earlier p l t) →
          T (is_leader earlier p s) ⊎ (T (is_leader earlier p s) → ⊥) → (l : List ℕ) × Memᴰ l rows × Chain earlier p l s
      go ih (inl t) = (s, row_i s t sol, here)
      go ih (inr n) =
          let r = any_e (λ g. any (beats s g) (assignments p.initial)) p.symmetries (beaten s sol n) in
          let g = r.0 in
          let q = any_e (beats s g) (assignments p.initial) r.2 in
          let t = q.0 in
          let st : T (is_solution p t) = both_l (is_solution p t) (both (earlier t s) (takes p g t s)) q.2 in
          let b : T (both (earlier t s) (takes p g t s)) = both_r (is_solution p t) (both (earlier t s) (takes p g t s)) q.2 in
          let e : T (earlier t s) = both_l (earlier t s) (takes p g t s) b in
          let lt : num t < num s = num_earlier t s ((solution_e p t st).sized ∙ sym (solution_e p s sol).sized)
          (λ i l. sol_small p w t st i (subst (λ (z : ℕ). i < z) (solution_e p t st).sized l)) e in
          let c = ih t (omega arith) st in
          (c.0, c.1, step t s g c.2 r.1 (both_r (earlier t s) (takes p g t s) b) sol e)

  chain_end : (l s : List ℕ) → T (is_solution p l) → Chain earlier p l s → T (is_solution p s)
  chain_end l s h here = h
  chain_end l s h (step b c g ch m t sol e) = sol

  pub chains : (s : List ℕ) → length s ≡ p.variables → T (is_solution p s) ↔ ∥ ((l : List ℕ) × Memᴰ l rows × Chain earlier p l s) ∥₁
  chains s e =
      (λ sol. ∣ reach (suc (num s)) s (omega arith) sol ∣₁, λ h. ∥∥₁_elim h (T_prop (is_solution p s)) (λ r. chain_end r.0 s (row_e r.0 r.1) r.2))
