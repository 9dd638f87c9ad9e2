-- Families of solutions, and one solution of each (paper 02, #104 and #112). The proofs are in proofs/Joined, FamilyCount and Closed.
use Rattle.std.specs.Prelude.{◌≡◌, ◌⊎◌, Bool, not, List, [], ◌∷◌, ℕ, zero, suc, ◌*◌, ◌<◌, length, T, eqb}
use Rattle.model.specs.Kit.{Memᴰ}
use Rattle.model.specs.{Lists.either, Lists.all, Lists.any, Lists.keep, Lists.below, Lists.at, Lists.same, Lists.earlier, Problem.Problem, Problem.is_solution, Problem.assignments, Problem.takes}

-- from the solution a to b by none, one or more symmetries, one after another, through solutions only
pub data Joined (p : Problem) (a : List ℕ) : List ℕ → Type 0 where
  alone : T (is_solution p a) → Joined p a a
  further : (b c g : List ℕ) → Joined p a b → Memᴰ g p.symmetries → T (takes p g b c) → T (is_solution p c) → Joined p a c

-- ---- the families, computed
-- the solutions in reading order, each once
unfoldable pub solutions_of : Problem → List (List ℕ)
solutions_of p = keep (is_solution p) (assignments p.initial)

-- those of the solutions that are among xs, or to which a symmetry takes one of xs
unfoldable pub widened : Problem → List (List ℕ) → List (List ℕ) → List (List ℕ)
widened p sols xs = keep (λ s. either (any (same s) xs) (any (λ g. any (λ t. takes p g t s) xs) p.symmetries)) sols

-- those reached from a by at most k symmetries
unfoldable pub reached_in : Problem → List (List ℕ) → List ℕ → ℕ → List (List ℕ)
reached_in p sols a zero = keep (same a) sols
reached_in p sols a (suc k) = widened p sols (reached_in p sols a k)

-- the family of a solution: no solution of it is further away than there are solutions
unfoldable pub family_of : Problem → List ℕ → List (List ℕ)
family_of p a = let sols = solutions_of p in reached_in p sols a (length sols)

-- no solution of its family reads earlier
unfoldable pub is_earliest : Problem → List ℕ → Bool
is_earliest p a = not (any (λ t. earlier t a) (family_of p a))

-- the earliest solution of each family, in reading order
unfoldable pub earliest_of : Problem → List (List ℕ)
earliest_of p = keep (is_earliest p) (solutions_of p)

-- the number of families: each is counted at its earliest solution
unfoldable pub families_of : Problem → ℕ
families_of p = length (earliest_of p)

-- ---- what that number is
-- no two of them are joined
abbrev pub Apart : Problem → List (List ℕ) → Type 0
Apart p [] = Unit {0}
Apart p (a ∷ l) = ((b : List ℕ) → Memᴰ b l → Joined p a b → ⊥) × Apart p l

-- one solution of each family: no two of them are joined, and every solution is joined to one of them
pub record OneOfEach (p : Problem) (l : List (List ℕ)) : Type 0 where
  pub solve : (a : List ℕ) → Memᴰ a l → T (is_solution p a)
  pub apart : Apart p l
  pub every : (s : List ℕ) → T (is_solution p s) → (a : List ℕ) × Memᴰ a l × Joined p a s

-- there is such a list, of that length, and every such list has that length
abbrev pub FamilyCount : Problem → Type 0
FamilyCount p =
    ((l : List (List ℕ)) × (length l ≡ families_of p) × OneOfEach p l)
    × ((l : List (List ℕ)) → OneOfEach p l → length l ≡ families_of p)

-- ---- closed symmetries
-- f and then g is h, or moves nothing, on every pair number
abbrev pub Makes : Problem → List ℕ → List ℕ → List ℕ → Type 0
Makes p f g h = (q : ℕ) → q < p.variables * p.values → at g (at f q) ≡ at h q

abbrev pub MovesNothing : Problem → List ℕ → List ℕ → Type 0
MovesNothing p f g = (q : ℕ) → q < p.variables * p.values → at g (at f q) ≡ q

-- any two symmetries, or one twice, one after the other, make one of them or move nothing
abbrev pub Closed : Problem → Type 0
Closed p =
    (f g : List ℕ) → Memᴰ f p.symmetries → Memᴰ g p.symmetries →
    ((h : List ℕ) × Memᴰ h p.symmetries × Makes p f g h) ⊎ MovesNothing p f g

-- the same as a test
unfoldable pub makes : Problem → List ℕ → List ℕ → List ℕ → Bool
makes p f g h = all (λ q. eqb (at g (at f q)) (at h q)) (below (p.variables * p.values))

unfoldable pub moves_nothing : Problem → List ℕ → List ℕ → Bool
moves_nothing p f g = all (λ q. eqb (at g (at f q)) q) (below (p.variables * p.values))
