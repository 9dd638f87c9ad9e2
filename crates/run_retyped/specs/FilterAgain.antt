-- Paper 02, #109, of what callers of `filter::filter` hold: a second call, a call with sets inside others, and calls by turns with two lists.
-- proofs/FilterAgain has the theorems.
use Rattle.std.specs.Prelude.{◌≡◌, List, ℕ, Result}
use Rattle.filter.specs.{FilterCalls.CallFilter, FilterCalls.ListsRight, declared.Ending.Ending}
use Rattle.model.specs.declared.refusals.Refusal.{Refusal}
use Rattle.run_retyped.specs.Retyped.{Within}

-- two calls one after the other leave what one leaves, whatever the lists
abbrev pub TwiceCalls : Type 0
TwiceCalls =
    (ds xs es us : List ℕ) (r : Result Ending Refusal) (rs : List ℕ) → CallFilter ds xs es us r rs → (r₂ : Result Ending Refusal) (ts : List ℕ) → CallFilter rs xs es us r₂ ts → ts ≡ rs

-- sets that lie inside others leave remainders inside theirs
abbrev pub WithinCalls : Type 0
WithinCalls =
    (ds ds₂ xs es us : List ℕ) → Within ds ds₂ → (r : Result Ending Refusal) (rs : List ℕ) → CallFilter ds xs es us r rs → (r₂ : Result Ending Refusal) (rs₂ : List ℕ) →
    CallFilter ds₂ xs es us r₂ rs₂ → Within rs rs₂

-- calls with the one list or the other, one after another in any order, take ds to rs
pub data Turned (xs es us xs₂ es₂ us₂ ds : List ℕ) : List ℕ → Type 0 where
  none : Turned xs es us xs₂ es₂ us₂ ds ds
  first : (rs ts : List ℕ) (r : Result Ending Refusal) → Turned xs es us xs₂ es₂ us₂ ds rs → CallFilter rs xs es us r ts → Turned xs es us xs₂ es₂ us₂ ds ts
  second : (rs ts : List ℕ) (r : Result Ending Refusal) → Turned xs es us xs₂ es₂ us₂ ds rs → CallFilter rs xs₂ es₂ us₂ r ts → Turned xs es us xs₂ es₂ us₂ ds ts

-- a call with either list leaves rs as it is
pub record Still (xs es us xs₂ es₂ us₂ rs : List ℕ) : Type 0 where
  pub answer : Result Ending Refusal
  pub first : CallFilter rs xs es us answer rs
  pub answer₂ : Result Ending Refusal
  pub second : CallFilter rs xs₂ es₂ us₂ answer₂ rs

-- two right lists, by turns until nothing moves, leave the same sets whichever starts; and there is such an end
pub record TurnsHeld (xs es us xs₂ es₂ us₂ ds : List ℕ) : Type 0 where
  pub same : (rs ts : List ℕ) → Turned xs es us xs₂ es₂ us₂ ds rs → Still xs es us xs₂ es₂ us₂ rs → Turned xs es us xs₂ es₂ us₂ ds ts → Still xs es us xs₂ es₂ us₂ ts → rs ≡ ts
  pub ends : (rs : List ℕ) × Turned xs es us xs₂ es₂ us₂ ds rs × Still xs es us xs₂ es₂ us₂ rs

abbrev pub TurnsCalls : Type 0
TurnsCalls = (xs es us xs₂ es₂ us₂ ds : List ℕ) → ListsRight ds xs es us → ListsRight ds xs₂ es₂ us₂ → TurnsHeld xs es us xs₂ es₂ us₂ ds
