-- Laws of the numbers at an offset: tests over them, and their elements. Assumes nothing.
use Rattle.model.specs.Kit.{subst, Bool, List, map, Memᴰ-map, Memᴰ-of_map, ℕ, ◌+◌, ◌*◌, ◌<◌, T}
use Rattle.model.specs.{Lists.all, Lists.below, Sheet.word, Sheet.words}
use Rattle.model.proofs.Lists.{all_i, all_e, below_i, below_e}

module _ {A : Type 0} where
  -- a test of all that a function gives
  pub map_all_i : (p : A → Bool) (f : ℕ → A) (k : ℕ) → ((j : ℕ) → j < k → T (p (f j))) → T (all p (map f (below k)))
  map_all_i p f k h = all_i p (map f (below k)) (λ x m. let r = Memᴰ-of_map f (below k) m in subst (λ (y : A). T (p y)) r.2 (h r.0 (below_e k r.0 r.1)))

  pub map_all_e : (p : A → Bool) (f : ℕ → A) (k : ℕ) → T (all p (map f (below k))) → (j : ℕ) → j < k → T (p (f j))
  map_all_e p f k t j l = all_e p (map f (below k)) t (f j) (Memᴰ-map f (below_i k j l))

pub words_all_i : (p : ℕ → Bool) (b : List ℕ) (o k : ℕ) → ((j : ℕ) → j < k → T (p (word b (o + 2 * j)))) → T (all p (words b o k))
unfolding words
words_all_i p b o k h = map_all_i p (λ i. word b (o + 2 * i)) k h

pub words_all_e : (p : ℕ → Bool) (b : List ℕ) (o k : ℕ) → T (all p (words b o k)) → (j : ℕ) → j < k → T (p (word b (o + 2 * j)))
unfolding words
words_all_e p b o k t j l = map_all_e p (λ i. word b (o + 2 * i)) k t j l
