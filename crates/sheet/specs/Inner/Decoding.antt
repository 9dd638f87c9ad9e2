-- What decoding a table of symmetries stores, and what decoding all of them says.
use Rattle.std.specs.Prelude.{◌≡◌, Bool, true, List, ℕ, ◌+◌, ◌*◌, ◌≤◌, ◌<◌, length}
use Rattle.model.specs.{Lists.at, Lists.all, Verdict.accepted, Sheet.word, Sheet.problem_of, Sheet.form_verdict, Sheet.permutes_pairs}
use Rattle.arrays.specs.{Inner.Layout.pair_code_of, Inner.Layout.Numbers, Inner.Layout.Images, Inner.Places.IMAGES}

-- a table of pair numbers at an offset, and room for its images
pub record Decodable (b : List ℕ) (from count d base : ℕ) (old : List ℕ) : Type 0 where
  pub some : 1 ≤ d
  pub few : d ≤ 16
  pub small : count ≤ 12 * d
  pub whole : from + 2 * count ≤ length b
  pub room : base + 192 ≤ IMAGES
  pub sized : length old ≡ IMAGES
  pub pairs : (q : ℕ) → q < count → word b (from + 2 * q) < count

-- the codes of the images of the pair numbers, and nothing else changed
pub record Decoded (b : List ℕ) (from count d base : ℕ) (old new : List ℕ) : Type 0 where
  pub sized : length new ≡ length old
  pub images : (q : ℕ) → q < count → at new (base + pair_code_of d q) ≡ pair_code_of d (word b (from + 2 * q))
  pub others : (i : ℕ) → ((q : ℕ) → q < count → base + pair_code_of d q ≡ i → ⊥) → at new i ≡ at old i

-- ---- all tables
-- question 15 to all of them
abbrev pub permuting : List ℕ → Bool
permuting b = all (permutes_pairs (problem_of b)) (problem_of b).symmetries

-- a sheet that passed questions 1 to 14, its numbers, and the answer to question 15 where it was asked before
pub record Tabled (b numbers : List ℕ) (asked : Bool) : Type 0 where
  pub passed : form_verdict b accepted ≡ accepted
  pub numbered : Numbers (problem_of b) numbers
  pub known : asked ≡ true → permuting b ≡ true

pub record TablesDecoded (b images : List ℕ) (r : Bool) : Type 0 where
  pub answers : r ≡ permuting b
  pub imaged : r ≡ true → Images (problem_of b) images
  pub sized : length images ≡ IMAGES
