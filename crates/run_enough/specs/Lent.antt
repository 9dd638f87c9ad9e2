-- "Are there at least m plans?" (paper 02, #101), asked of a sheet, pairs and a block: what a caller holds. No list is lent.
use Rattle.std.specs.Prelude.{List, ℕ}
use Rattle.model.specs.Verdict.{reply}
use Rattle.run_input.specs.Lent.{verdict_lent, problem_lent}
use Rattle.run_enough.specs.AtLeast.{Enough, enough_of}
pub use Rattle.model.specs.Verdict.{Reply, refusal, answered}

abbrev pub EnoughAnswer : Type 0
EnoughAnswer = Reply Enough

-- the run's questions; then the answer from the tree that the run walks
unfoldable pub enough_lent : List ℕ → List ℕ → List ℕ → ℕ → ℕ → EnoughAnswer
enough_lent b pairs block limit m = reply (verdict_lent b pairs block) (enough_of (problem_lent b pairs block) limit m)
