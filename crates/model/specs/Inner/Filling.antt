-- Loops over the first numbers: each turn stores one number, or unites a set with one member more.
use Rattle.std.specs.Prelude.{◌≡◌, Bool, List, ℕ, ◌<◌, ltb, length}
use Rattle.model.specs.{Lists.both, Lists.at, ValueSets.has}

-- i numbers were stored, number v at index `slot v`, and nothing else was
pub record Filled (slot : ℕ → ℕ) (P : ℕ → ℕ → Type 0) (i : ℕ) (old new : List ℕ) : Type 0 where
  pub size : length new ≡ length old
  pub here : (v : ℕ) → v < i → P v (at new (slot v))
  pub other : (j : ℕ) → ((v : ℕ) → v < i → slot v ≡ j → ⊥) → at new j ≡ at old j

-- the set has those below i that f takes to true
pub record Gathered (f : ℕ → Bool) (i set : ℕ) : Type 0 where
  pub has_is : (x : ℕ) → has set x ≡ both (ltb x i) (f x)
