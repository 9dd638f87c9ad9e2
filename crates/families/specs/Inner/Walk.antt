-- For the code that counts families: the number of an image, and breadth-first search over the numbers of the solutions. The steps are proved in
-- proofs/Numbers.antt and proofs/Walk.antt.
use Rattle.std.specs.Prelude.{◌≡◌, Bool, false, List, [], ℕ, ◌≤◌, ◌<◌, length, take, get_or}
use Rattle.model.specs.{Lists.keep, Lists.at, ValueSets.least, Problem.Problem, Problem.takes, Problem.symmetry_at}
use Rattle.families.specs.Families.{Joined, solutions_of, is_earliest}

-- ---- solutions by their number
unfoldable pub solution_at : Problem → ℕ → List ℕ
solution_at p i = get_or (solutions_of p) i []

-- the number of the solution to which symmetry k takes solution i
unfoldable pub image_at : Problem → ℕ → ℕ → ℕ
image_at p k i = least (length (solutions_of p)) (λ j. takes p (symmetry_at p k) (solution_at p i) (solution_at p j))

-- ---- the walk
-- a solution was met
unfoldable pub met : List Bool → ℕ → Bool
met seen j = get_or seen j false

-- seen: true at the numbers of the solutions met; queue: these numbers, in the order in which they were met, tail of them.
-- The images of the first head of them were all looked at, and of the next one those by the first turn symmetries.
-- Each solution below starts was asked whether it begins a family, and count of them do.
pub record Walk (p : Problem) (seen : List Bool) (queue : List ℕ) (starts count head turn tail : ℕ) : Type 0 where
  pub wide : length (solutions_of p) ≤ length seen
  pub long : length (solutions_of p) ≤ length queue
  pub asked : starts ≤ length (solutions_of p)
  pub ahead : head ≤ tail
  -- the queue holds each solution met once, and nothing else
  pub queued : (t : ℕ) → t < tail → (at queue t < length (solutions_of p)) × (met seen (at queue t) ≡ false → ⊥)
  pub marked : (j : ℕ) → j < length (solutions_of p) → (met seen j ≡ false → ⊥) → (t : ℕ) × (t < tail) × (at queue t ≡ j)
  pub once : (s t : ℕ) → s < tail → t < tail → at queue s ≡ at queue t → s ≡ t
  -- every start was met, and everything met is joined to a start
  pub begun : (i : ℕ) → i < starts → met seen i ≡ false → ⊥
  pub joined : (t : ℕ) → t < tail → (i : ℕ) × (i < starts) × Joined p (solution_at p i) (solution_at p (at queue t))
  -- the images looked at were met
  pub passed : (t k : ℕ) → t < head → k < length p.symmetries → met seen (image_at p k (at queue t)) ≡ false → ⊥
  pub turned : (k : ℕ) → k < turn → met seen (image_at p k (at queue head)) ≡ false → ⊥
  -- as many families as begin below starts
  pub counted : count ≡ length (keep (is_earliest p) (take starts (solutions_of p)))
