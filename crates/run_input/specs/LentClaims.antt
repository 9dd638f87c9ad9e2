-- What is claimed of a run that is lent a sheet, pairs and a block (specs/Lent): its questions, and an empty lending. Its demands are promises' (`DemandsLent`).
-- The proofs are in proofs/Lent.antt and LentQuestions.antt.
use Rattle.std.specs.Prelude.{◌≡◌, ◌↔◌, List, [], ◌∷◌, ℕ, ◌+◌, ◌%◌, ◌≤◌, ◌<◌, length}
use Rattle.model.specs.Kit.{Memᴰ}
use Rattle.model.specs.{Verdict.accepted, Verdict.refused, Sheet.problem_of, Sheet.symmetries_verdict, Sheet.verdict_of, Run.answer_of, Run.list_of, Run.Tally, Run.tally_of}
use Rattle.order.specs.{Order.Circle, RunBy.sheet_input}
use Rattle.block.specs.Block.{block_tables}
use Rattle.run_input.specs.Lent.{verdict_lent, lent_input, problem_lent, answer_lent, list_lent, tally_lent}

-- ---- the questions
-- at most 64 pairs of places, and no half pair
pub record Pairs (n : ℕ) (pairs : List ℕ) : Type 0 where
  pub few : length pairs ≤ 128
  pub whole : length pairs % 2 ≡ 0
  pub inside : (x : ℕ) → Memᴰ x pairs → x < n

-- the bytes name 2 to 5 neighbouring places
abbrev pub NamesBlock : ℕ → List ℕ → Type 0
NamesBlock n block = (first : ℕ) × (m : ℕ) × (block ≡ first ∷ m ∷ []) × (2 ≤ m) × (m ≤ 5) × (first + m ≤ n)

-- the sheet's come first; then 28 where there are over 64 pairs or half a pair, 29 where a place isn't below n; else 30 exactly for a circle;
-- without one 36 exactly where bytes are lent that name no block; for a block what is left is its 15 and 16, items counting on from g
pub record QuestionsLent (b pairs block : List ℕ) : Type 0 where
  pub sheet : (number item : ℕ) → verdict_of b ≡ refused number item → verdict_lent b pairs block ≡ refused number item
  pub half : verdict_of b ≡ accepted → ((length pairs ≤ 128) × (length pairs % 2 ≡ 0) → ⊥) → verdict_lent b pairs block ≡ refused 28 0
  pub outside : verdict_of b ≡ accepted → length pairs ≤ 128 → length pairs % 2 ≡ 0 → (((x : ℕ) → Memᴰ x pairs → x < (problem_of b).variables) → ⊥) →
      verdict_lent b pairs block ≡ refused 29 0
  pub circle : verdict_of b ≡ accepted → Pairs (problem_of b).variables pairs → (verdict_lent b pairs block ≡ refused 30 0) ↔ Circle pairs
  pub unknown : verdict_of b ≡ accepted → Pairs (problem_of b).variables pairs → (Circle pairs → ⊥) →
      (verdict_lent b pairs block ≡ refused 36 0) ↔ ((block ≡ [] → ⊥) × (NamesBlock (problem_of b).variables block → ⊥))
  pub rows : verdict_of b ≡ accepted → Pairs (problem_of b).variables pairs → (Circle pairs → ⊥) → (k : NamesBlock (problem_of b).variables block) →
      verdict_lent b pairs block ≡ symmetries_verdict (problem_of b) (length (problem_of b).symmetries) (block_tables (problem_of b) k.0 k.1)
  pub none : verdict_of b ≡ accepted → Pairs (problem_of b).variables pairs → (Circle pairs → ⊥) → block ≡ [] → verdict_lent b pairs block ≡ accepted

abbrev pub QuestionsLentClaim : Type 0
QuestionsLentClaim = (b pairs block : List ℕ) → QuestionsLent b pairs block

-- an empty lending changes nothing: the run is given what paper 01's is, and answers, lists and counts what is defined of the sheet; so does its tree
pub record NothingLent (b : List ℕ) : Type 0 where
  pub input : lent_input b [] [] ≡ sheet_input b
  pub answer : (limit : ℕ) (out : List ℕ) → answer_lent b [] [] limit out ≡ answer_of b limit out
  pub list : (limit : ℕ) (out : List ℕ) → list_lent b [] [] limit out ≡ list_of b limit out
  pub tally : (limit : ℕ) (out : List ℕ) (tally : Tally) → tally_lent b [] [] limit out tally ≡ tally_of b limit out tally
  pub tree : verdict_of b ≡ accepted → problem_lent b [] [] ≡ problem_of b

abbrev pub NothingLentClaim : Type 0
NothingLentClaim = (b : List ℕ) → NothingLent b
