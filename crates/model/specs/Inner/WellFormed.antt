-- What the questions show of the problem that an accepted sheet states (proofs/Accepted): questions 1 to 15 that it is well formed,
-- question 16 that its symmetries respect it.
use Rattle.std.specs.Prelude.{◌≡◌, List, ℕ, ◌*◌, ◌^◌, ◌≤◌, ◌<◌, length, T}
use Rattle.model.specs.Kit.{Memᴰ}
use Rattle.model.specs.{Lists.at, Lists.ascending, Problem.Problem, Problem.Constraint, Problem.respects, Sheet.permutes_pairs}

pub record GoodConstraint (p : Problem) (c : Constraint) : Type 0 where
  pub some : 1 ≤ length c.scope
  pub few : length c.scope ≤ 3
  pub inside : (x : ℕ) → Memᴰ x c.scope → x < p.variables
  pub ordered : T (ascending c.scope)
  pub sized : (r : List ℕ) → Memᴰ r c.rows → length r ≡ length c.scope
  pub valued : (r : List ℕ) → Memᴰ r c.rows → (v : ℕ) → Memᴰ v r → v < p.values

pub record GoodSymmetry (p : Problem) (g : List ℕ) : Type 0 where
  pub sized : length g ≡ p.variables * p.values
  pub permutes : T (permutes_pairs p g)

-- what questions 1 to 14 show that the questions on symmetries go by
pub record Stated (p : Problem) : Type 0 where
  pub few : p.variables ≤ 12
  pub one : 1 ≤ p.values
  pub sixteen : p.values ≤ 16
  pub narrow : (x : ℕ) → x < p.variables → at p.initial x < 2 ^ p.values
  pub most : length p.constraints ≤ 32
  pub constrained : (c : Constraint) → Memᴰ c p.constraints → GoodConstraint p c

pub record WellFormed (p : Problem) : Type 0 where
  pub some : 1 ≤ p.variables
  pub few : p.variables ≤ 12
  pub one : 1 ≤ p.values
  pub sixteen : p.values ≤ 16
  pub sized : length p.initial ≡ p.variables
  pub nonempty : (x : ℕ) → x < p.variables → 0 < at p.initial x
  pub narrow : (x : ℕ) → x < p.variables → at p.initial x < 2 ^ p.values
  pub most : length p.constraints ≤ 32
  pub constrained : (c : Constraint) → Memᴰ c p.constraints → GoodConstraint p c
  pub symmetric : (g : List ℕ) → Memᴰ g p.symmetries → GoodSymmetry p g

pub record Respected (p : Problem) : Type 0 where
  pub respectful : (g : List ℕ) → Memᴰ g p.symmetries → T (respects p g)
