-- The report's last figure (paper 02, #104): the number of families on the sheet; a dash when the run isn't finished, or when a run of the sheet
-- without exchanges, same limit and room, isn't.
use Rattle.std.specs.Prelude.{List, [], ◌++◌, ℕ, ◌-◌, ◌*◌, take, drop}
use Rattle.model.specs.{Bytes.two_bytes, Problem.Problem, Problem.with_symmetries, Sheet.header_of, Sheet.problem_of, Run.Ending, Run.finished, Run.spent, Run.full}
use Rattle.order.specs.RunBy.{result_by}
use Rattle.run_input.specs.Lent.{problem_with, order_lent}
use Rattle.families.specs.Families.{families_of}

-- ---- the sheet without exchanges
-- its problem: no symmetries, neither the sheet's nor a block's
abbrev pub problem_bare : List ℕ → Problem
problem_bare b = with_symmetries (problem_of b) []

-- the sheet that states it: no exchanges, the length to fit, the other bytes as they are
unfoldable pub bare_sheet : List ℕ → List ℕ
bare_sheet b = take 6 b ++ (two_bytes 0 ++ (take 6 (drop 8 b) ++ (two_bytes (header_of b).third ++ take ((header_of b).third - 16) (drop 16 b))))

-- ---- the figure
pub data Figure : Type 0 where
  number : ℕ → Figure
  dash : Figure

-- the number k where both runs are finished
abbrev pub figure_for : Ending → Ending → ℕ → Figure
figure_for (finished plans made) (finished plans' made') k = number k
figure_for (finished plans made) (spent plans' made') k = dash
figure_for (finished plans made) (full plans' made') k = dash
figure_for (spent plans made) e k = dash
figure_for (full plans made) e k = dash

-- of the run that is lent a sheet, pairs and a block: both runs have the same pairs, limit and room
unfoldable pub families_lent : List ℕ → List ℕ → List ℕ → ℕ → ℕ → Figure
families_lent b pairs block limit room =
    figure_for (result_by (order_lent b pairs) (problem_with b block) limit room).ending (result_by (order_lent b pairs) (problem_bare b) limit room).ending
    (families_of (problem_with b block))

-- of a report, whose run is lent a sheet alone and has room for 4,096 plans
abbrev pub report_figure : List ℕ → ℕ → Figure
report_figure b limit = families_lent b [] [] limit (4096 * (problem_of b).variables)
