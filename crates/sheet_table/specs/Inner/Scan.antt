-- What the loops over a table have found of its first numbers.
use Rattle.std.specs.Prelude.{◌≡◌, Bool, true, false, List, ℕ, ◌%◌, ◌<◌, T, eqb}
use Rattle.model.specs.{Lists.at, Problem.Problem, Problem.is_pair}
use Rattle.arrays.specs.Inner.Layout.{pair_code_of}

-- a pair goes to a pair, any other number stands for itself
abbrev pub fits : Problem → List ℕ → ℕ → Bool
fits p g q = elim (is_pair p q) [ true ↦ is_pair p (at g q) | false ↦ eqb (at g q) q ]

-- the numbers below q are so, no two pairs of them go to one, and `seen` marks where they go
pub record Seen (p : Problem) (g seen : List ℕ) (q : ℕ) : Type 0 where
  pub fitting : (j : ℕ) → j < q → T (fits p g j)
  pub marked : (j : ℕ) → j < q → T (is_pair p j) → at seen (at g j) ≡ 1
  pub reached : (y : ℕ) → at seen y ≡ 1 → (j : ℕ) × (j < q) × T (is_pair p j) × (at g j ≡ y)
  pub apart : (i j : ℕ) → i < j → j < q → T (is_pair p i) → T (is_pair p j) → at g i ≡ at g j → ⊥

-- of a number, if it is a pair: the code of its image, and at that its value; the same for the numbers below q
abbrev pub DrawnAt : Problem → List ℕ → List ℕ → List ℕ → ℕ → Type 0
DrawnAt p g codes moves j = T (is_pair p j) → (at codes (pair_code_of p.values j) ≡ pair_code_of p.values (at g j)) × (at moves (pair_code_of p.values (at g j)) ≡ j % p.values)

abbrev pub DrawnTo : Problem → List ℕ → List ℕ → List ℕ → ℕ → Type 0
DrawnTo p g codes moves q = (j : ℕ) → j < q → DrawnAt p g codes moves j
