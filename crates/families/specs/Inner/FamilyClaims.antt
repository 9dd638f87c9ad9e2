-- What families are, said of every problem that the questions can pass, with the exchanges of a block or without (paper 02, #104 and #112); of callers it is in
-- promises' FamilyCalls. The proofs are in proofs/Joined, FamilyCount and Closed.
use Rattle.std.specs.Prelude.{List, ℕ, T, ◌≡◌, ◌↔◌, length}
use Rattle.model.specs.{Problem.Problem, Problem.is_solution, Inner.WellFormed.WellFormed, Inner.WellFormed.Respected, Lists.earlier, Claims.Leader, Claims.leaders}
use Rattle.families.specs.Families.{Joined, FamilyCount, Closed, families_of}

-- what closed symmetries give: the leaders are the earliest of their families, each family has exactly one, and there are as many as families
pub record OneLeaderEach (p : Problem) : Type 0 where
  pub earliest : (s : List ℕ) → Leader earlier p s ↔ (T (is_solution p s) × ((t : List ℕ) → Joined p s t → T (earlier t s) → ⊥))
  pub each : (s : List ℕ) → T (is_solution p s) → (l : List ℕ) × Leader earlier p l × Joined p l s × ((m : List ℕ) → Leader earlier p m → Joined p m s → m ≡ l)
  pub count : length (leaders p) ≡ families_of p

-- a solution is joined to itself, to whatever is joined to it, and to what that is joined to; only solutions are joined
pub record Equivalence (p : Problem) : Type 0 where
  pub itself : (a : List ℕ) → T (is_solution p a) → Joined p a a
  pub back : (a b : List ℕ) → Joined p a b → Joined p b a
  pub on : (a b c : List ℕ) → Joined p a b → Joined p b c → Joined p a c
  pub solve : (a b : List ℕ) → Joined p a b → T (is_solution p a) × T (is_solution p b)

abbrev pub JoinedEquivalence : Type 0
JoinedEquivalence = (p : Problem) → WellFormed p → Respected p → Equivalence p

-- `families_of` is the number of families
abbrev pub FamiliesCounted : Type 0
FamiliesCounted = (p : Problem) → WellFormed p → Respected p → FamilyCount p

-- closed symmetries leave exactly the earliest of each family
abbrev pub OneLeaderEachClaim : Type 0
OneLeaderEachClaim = (p : Problem) → WellFormed p → Respected p → Closed p → OneLeaderEach p
