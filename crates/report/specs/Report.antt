-- The text of the report, as bytes (paper 01, "The report"); its last figure is the number of families (paper 02, #104).
use Rattle.std.specs.Prelude.{true, false, List, [], ◌∷◌, ◌++◌, map, ℕ, zero, suc, ◌+◌, ◌*◌, ◌/◌, ◌%◌, take, ltb}
use Rattle.model.specs.{Lists.flat, Verdict.Verdict, Verdict.accepted, Verdict.refused, Sheet.verdict_of, Sheet.problem_of, Run.Ending, Run.finished, Run.spent, Run.full, Run.Result, Run.result_of}
use Rattle.families_figure.specs.Figure.{Figure, number, dash, report_figure}

-- the limit of a report's run, and the plans that it has room for
abbrev pub REPORT_LIMIT : ℕ
REPORT_LIMIT = 1000000

abbrev pub REPORT_PLANS : ℕ
REPORT_PLANS = 4096

-- a number in decimal, at most k digits
unfoldable pub digits : ℕ → ℕ → List ℕ
digits zero n = []
digits (suc k) n = elim (ltb n 10) [ true ↦ (48 + n) ∷ [] | false ↦ digits k (n / 10) ++ ((48 + n % 10) ∷ []) ]

unfoldable pub decimal : ℕ → List ℕ
decimal n = digits 20 n

-- a line: a word and numbers, one space before each, then the newline
unfoldable pub line : List ℕ → List ℕ → List ℕ
line word numbers = word ++ flat (map (λ n. 32 ∷ decimal n) numbers) ++ (10 ∷ [])

-- "plan", "finished", "spent", "full", "refused"
abbrev pub plan_word : List ℕ
plan_word = 112 ∷ 108 ∷ 97 ∷ 110 ∷ []

abbrev pub finished_word : List ℕ
finished_word = 102 ∷ 105 ∷ 110 ∷ 105 ∷ 115 ∷ 104 ∷ 101 ∷ 100 ∷ []

abbrev pub spent_word : List ℕ
spent_word = 115 ∷ 112 ∷ 101 ∷ 110 ∷ 116 ∷ []

abbrev pub full_word : List ℕ
full_word = 102 ∷ 117 ∷ 108 ∷ 108 ∷ []

abbrev pub refused_word : List ℕ
refused_word = 114 ∷ 101 ∷ 102 ∷ 117 ∷ 115 ∷ 101 ∷ 100 ∷ []

-- the ending's word, plans, trials, families: a number, or "-"
abbrev pub figure_line : List ℕ → ℕ → ℕ → Figure → List ℕ
figure_line word plans made (number k) = line word (plans ∷ made ∷ k ∷ [])
figure_line word plans made dash = word ++ (32 ∷ decimal plans) ++ (32 ∷ decimal made) ++ (32 ∷ 45 ∷ 10 ∷ [])

unfoldable pub ending_line : Ending → Figure → List ℕ
ending_line (finished plans made) f = figure_line finished_word plans made f
ending_line (spent plans made) f = figure_line spent_word plans made f
ending_line (full plans made) f = figure_line full_word plans made f

unfoldable pub result_text : Result → Figure → List ℕ
result_text r f = flat (map (line plan_word) r.rows) ++ ending_line r.ending f

unfoldable pub report_for : Verdict → List ℕ → List ℕ
report_for accepted b = result_text (result_of (problem_of b) REPORT_LIMIT (REPORT_PLANS * (problem_of b).variables)) (report_figure b REPORT_LIMIT)
report_for (refused n i) b = line refused_word (n ∷ i ∷ [])

-- the report on an input: of a longer one its first 65,536 bytes are the sheet
unfoldable pub report_of : List ℕ → List ℕ
report_of input = let b = take 65536 input in report_for (verdict_of b) b
