-- Paper 02, #114, of what a caller of `small_sheet` holds. proofs/Calls has the theorem.
use Rattle.std.specs.Prelude.{◌≡◌, List, [], ◌∷◌, map, ℕ, ◌≤◌, ◌<◌, Result, Ok, Err, length, take, drop}
use Rattle.model.specs.{Problem.Constraint, Verdict.accepted, Sheet.problem_of, Sheet.verdict_of}
use Rattle.model.specs.declared.refusals.{Question.Question, Question.TheVariants.Position, Question.TheVariants.SheetRoom}
use Rattle.sheet_small.specs.Calls.{CallSmall}

-- an accepted sheet of two variables and two values with one constraint, on both, and at most one symmetry
pub record IsSmall (b : List ℕ) : Type 0 where
  pub accepts : verdict_of b ≡ accepted
  pub variables : (problem_of b).variables ≡ 2
  pub values : (problem_of b).values ≡ 2
  pub constraint : map (λ (c : Constraint). c.scope) (problem_of b).constraints ≡ (0 ∷ 1 ∷ []) ∷ []
  pub symmetry : length (problem_of b).symmetries ≤ 1

pub record SmallHeld : Type 0 where
  -- 39 past the last of 544, then 40 where the room is under 52 bytes; every byte as it came
  pub past : (k : ℕ) (room : List ℕ) (r : Result ℕ Question) (after : List ℕ) → CallSmall k room r after → 544 ≤ k → (r ≡ Err Position) × (after ≡ room)
  pub short : (k : ℕ) (room : List ℕ) (r : Result ℕ Question) (after : List ℕ) → CallSmall k room r after → k < 544 → length room < 52 → (r ≡ Err SheetRoom) × (after ≡ room)
  -- else the bytes written are such a sheet, those behind them as they came ..
  pub writes : (k : ℕ) (room : List ℕ) (r : Result ℕ Question) (after : List ℕ) → CallSmall k room r after → k < 544 → 52 ≤ length room →
      (n : ℕ) × (r ≡ Ok n) × IsSmall (take n after) × (drop n after ≡ drop n room)
  -- .. and each such sheet is written at exactly one position
  pub each : (b : List ℕ) → IsSmall b →
      (k : ℕ) × (k < 544) × ((room : List ℕ) (n : ℕ) (after : List ℕ) → CallSmall k room (Ok n) after → take n after ≡ b)
      × ((j : ℕ) (room : List ℕ) (n : ℕ) (after : List ℕ) → CallSmall j room (Ok n) after → take n after ≡ b → j ≡ k)
