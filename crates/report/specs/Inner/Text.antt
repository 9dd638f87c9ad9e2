-- The text of an ending, in parts, and in a buffer that it fits or not.
use Rattle.std.specs.Prelude.{◌≡◌, List, ◌∷◌, ◌++◌, map, ℕ, ◌≤◌, ◌<◌, length, drop}
use Rattle.model.specs.{Lists.flat, Run.Ending, Run.listed_plans, Run.plans_in}
use Rattle.families_figure.specs.Figure.{Figure}
use Rattle.report.specs.Report.{decimal, line, plan_word, result_text}

-- a field: a space and a number
abbrev pub field : ℕ → List ℕ
field n = 32 ∷ decimal n

unfoldable pub fields : List ℕ → List ℕ
fields ns = flat (map field ns)

-- the lines of the plans listed, which are rows of n bytes at the front of the list
abbrev pub plan_lines : ℕ → ℕ → List ℕ → List ℕ
plan_lines n plans list = flat (map (line plan_word) (listed_plans n plans list))

-- the text of an ending with its figure, and of the plans that it carries, which are rows of n bytes at the front of the list
unfoldable pub ended_text : Ending → Figure → ℕ → List ℕ → List ℕ
ended_text e f n list = result_text (record { ending = e; rows = listed_plans n (plans_in e) list }) f

-- 4,096 plans of 12 three-digit values, 53 bytes each, and a line of 72 bytes: the room that every report fits
abbrev pub room : ℕ
room = 217160

-- n is the length of the text; it stands at the front of the buffer d, which is `after` now, or the buffer is shorter and as it came
pub record Fitted (d t after : List ℕ) (n : ℕ) : Type 0 where
  pub count : n ≡ length t
  pub most : n ≤ room
  pub fits : length t ≤ length d → after ≡ t ++ drop (length t) d
  pub short : length d < length t → after ≡ d
