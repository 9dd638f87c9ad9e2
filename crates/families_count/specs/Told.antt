-- The number of families on a sheet for callers (paper 02, #104): both runs have room for 4,096 plans.
use Rattle.std.specs.Prelude.{List, ℕ, ◌*◌, Option, None, Some, Result}
use Rattle.model.specs.{Refusals.reply_from, declared.refusals.Refusal.Refusal, Verdict.reply, Sheet.problem_of}
use Rattle.run_input.specs.Lent.{verdict_lent}
use Rattle.families_figure.specs.Figure.{Figure, number, dash, families_lent}
pub use Rattle.model.specs.Verdict.{Reply, refusal, answered}

-- the refusal of a run that is lent a sheet, pairs and a block, or its figure
abbrev pub Told : Type 0
Told = Reply Figure

abbrev pub told : Figure → Told
told f = answered f

unfoldable pub counted_lent : List ℕ → List ℕ → List ℕ → ℕ → Told
counted_lent b pairs block limit = reply (verdict_lent b pairs block) (families_lent b pairs block limit (4096 * (problem_of b).variables))

-- a figure that may be none: the dash
abbrev pub figure_of : Option ℕ → Figure
figure_of None = dash
figure_of (Some k) = number k

-- the answer of `families`
abbrev pub means : Result (Option ℕ) Refusal → Told
means = reply_from figure_of
