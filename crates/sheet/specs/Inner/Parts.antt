-- The questions in parts, each with what is asked after it, and what the first parts leave.
use Rattle.std.specs.Prelude.{List, ◌≡◌, ℕ, ◌+◌, ◌*◌, ◌≤◌, ◌<◌, Result, Ok, length}
use Rattle.model.specs.{Lists.below, Lists.at, Verdict.Verdict, Sheet.header_of, Sheet.word, Sheet.header_verdict, Sheet.sets_verdict, Refusals.verdict_from, declared.refusals.Refusal.Refusal}
use Rattle.arrays.specs.Inner.Places.{INITIAL, SCOPES}
use Rattle.sheet.specs.Meaning.{Answers}

-- ---- questions 1 to 7
abbrev pub header_asked : List ℕ → Verdict → Verdict
header_asked b later = header_verdict (header_of b) (length b) later

-- what they leave
pub record Fit (b : List ℕ) : Type 0 where
  pub long : 16 ≤ length b
  pub some : 1 ≤ (header_of b).variables
  pub few : (header_of b).variables ≤ 12
  pub one : 1 ≤ (header_of b).values
  pub sixteen : (header_of b).values ≤ 16
  pub constraints : (header_of b).constraints ≤ 32
  pub symmetries : (header_of b).symmetries ≤ 16
  pub whole : (header_of b).size ≡ length b
  pub second : (header_of b).second ≡ 16 + 2 * (header_of b).variables
  pub ordered : (header_of b).second ≤ (header_of b).third
  pub third : (header_of b).third ≤ length b

-- ---- question 8
abbrev pub sets_asked : List ℕ → Verdict → Verdict
sets_asked b later = sets_verdict b (header_of b) (below (header_of b).variables) later

-- {0} for each of sixteen variables, and nothing else changed
pub record ZeroSets (old new : List ℕ) : Type 0 where
  pub sized : length new ≡ length old
  pub sets : (x : ℕ) → x < 16 → at new (INITIAL + x) ≡ 1
  pub others : (i : ℕ) → ((x : ℕ) → x < 16 → INITIAL + x ≡ i → ⊥) → at new i ≡ at old i

-- the initial sets of n variables, {0} for the others up to sixteen, and nothing else changed
pub record AllSets (b : List ℕ) (n : ℕ) (old new : List ℕ) : Type 0 where
  pub sized : length new ≡ length old
  pub initial : (x : ℕ) → x < n → at new (INITIAL + x) ≡ word b (16 + 2 * x)
  pub unused : (x : ℕ) → n ≤ x → x < 16 → at new (INITIAL + x) ≡ 1
  pub low : (i : ℕ) → i < INITIAL → at new i ≡ at old i
  pub high : (i : ℕ) → SCOPES ≤ i → at new i ≡ at old i

pub record SetsAsked (b : List ℕ) (n : ℕ) (old new : List ℕ) (r : Result Unit Refusal) : Type 0 where
  pub answers : Answers (sets_asked b) (verdict_from r)
  pub filled : r ≡ Ok tt → AllSets b n old new
