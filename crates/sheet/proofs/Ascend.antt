-- The tests of order over what a function gives in turn: they hold where each is before the next. Assumes nothing.
use Rattle.model.specs.Kit.{◌≡◌, refl, sym, subst, Bool, true, false, List, [], ◌∷◌, map, ℕ, zero, suc, ◌+◌, ◌≤◌, ◌<◌, arith, T, eqb, ltb, ltb→lt, lt→ltb, eqb-true, eqb-false}
use Rattle.model.specs.Lists.{both, up_from, below, earlier, ascending, rows_ascend}
use Rattle.model.proofs.Lists.{both_i, both_l, both_r}

ascending_cons : (x y : ℕ) (r : List ℕ) → ascending (x ∷ y ∷ r) ≡ both (ltb x y) (ascending (y ∷ r))
unfolding ascending
ascending_cons x y r = go (ltb x y)
  where
    go : (b : Bool) → elim b [ true ↦ ascending (y ∷ r) | false ↦ false ] ≡ both b (ascending (y ∷ r))
    go true = refl
    go false = refl

rows_cons : (x y : List ℕ) (r : List (List ℕ)) → rows_ascend (x ∷ y ∷ r) ≡ both (earlier x y) (rows_ascend (y ∷ r))
unfolding rows_ascend
rows_cons x y r = go (earlier x y)
  where
    go : (b : Bool) → elim b [ true ↦ rows_ascend (y ∷ r) | false ↦ false ] ≡ both b (rows_ascend (y ∷ r))
    go true = refl
    go false = refl

-- a test of lists that goes by neighbours
module _ {A : Type 0} (R : A → A → Bool) (test : List A → Bool) (nil : T (test [])) (one : (x : A) → T (test (x ∷ [])))
    (cons : (x y : A) (r : List A) → test (x ∷ y ∷ r) ≡ both (R x y) (test (y ∷ r))) (f : ℕ → A) where
  neighbours_i : (i k : ℕ) → ((j : ℕ) → i ≤ j → suc j < i + k → T (R (f j) (f (suc j)))) → T (test (map f (up_from i k)))
  unfolding up_from
  neighbours_i i zero h = nil
  neighbours_i i (suc zero) h = one (f i)
  neighbours_i i (suc (suc k)) h =
      subst T (sym (cons (f i) (f (suc i)) (map f (up_from (suc (suc i)) k))))
      (both_i (R (f i) (f (suc i))) (test (map f (up_from (suc i) (suc k)))) (h i (omega arith) (omega arith)) (neighbours_i (suc i) (suc k) (λ j l m. h j (omega arith) (omega arith))))

  neighbours_e : (i k : ℕ) → T (test (map f (up_from i k))) → (j : ℕ) → i ≤ j → suc j < i + k → T (R (f j) (f (suc j)))
  unfolding up_from
  neighbours_e i zero t j l m = absurd (omega arith)
  neighbours_e i (suc zero) t j l m = absurd (omega arith)
  neighbours_e i (suc (suc k)) t j l m = go (neighbours_e (suc i) (suc k) (both_r (R (f i) (f (suc i))) (test (map f (up_from (suc i) (suc k)))) u) j) (eqb j i) refl
    where
      u : T (both (R (f i) (f (suc i))) (test (map f (up_from (suc i) (suc k)))))
      u = subst T (cons (f i) (f (suc i)) (map f (up_from (suc (suc i)) k))) t

      go : (suc i ≤ j → suc j < suc i + suc k → T (R (f j) (f (suc j)))) → (b : Bool) → eqb j i ≡ b → T (R (f j) (f (suc j)))
      go ih true e = subst (λ (n : ℕ). T (R (f n) (f (suc n)))) (sym (eqb-true j i e)) (both_l (R (f i) (f (suc i))) (test (map f (up_from (suc i) (suc k)))) u)
      go ih false e = let n : j ≡ i → ⊥ = eqb-false j i e in ih (omega arith) (omega arith)

pub ascending_i : (f : ℕ → ℕ) (k : ℕ) → ((j : ℕ) → suc j < k → f j < f (suc j)) → T (ascending (map f (below k)))
unfolding below ascending
ascending_i f k h = neighbours_i ltb ascending tt (λ x. tt) ascending_cons f 0 k (λ j l m. lt→ltb (f j) (f (suc j)) (h j (omega arith)))

pub ascending_e : (f : ℕ → ℕ) (k : ℕ) → T (ascending (map f (below k))) → (j : ℕ) → suc j < k → f j < f (suc j)
unfolding below ascending
ascending_e f k t j l = ltb→lt (f j) (f (suc j)) (neighbours_e ltb ascending tt (λ x. tt) ascending_cons f 0 k t j (omega arith) (omega arith))

pub rows_i : (f : ℕ → List ℕ) (k : ℕ) → ((j : ℕ) → suc j < k → T (earlier (f j) (f (suc j)))) → T (rows_ascend (map f (below k)))
unfolding below rows_ascend
rows_i f k h = neighbours_i earlier rows_ascend tt (λ x. tt) rows_cons f 0 k (λ j l m. h j (omega arith))

pub rows_e : (f : ℕ → List ℕ) (k : ℕ) → T (rows_ascend (map f (below k))) → (j : ℕ) → suc j < k → T (earlier (f j) (f (suc j)))
unfolding below rows_ascend
rows_e f k t j l = neighbours_e earlier rows_ascend tt (λ x. tt) rows_cons f 0 k t j (omega arith) (omega arith)
