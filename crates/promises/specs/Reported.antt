-- The report's text (paper 01, "The report"), of what its reader holds: bytes, by their lines. Demands 2 and 3 of these; `planner_report` leaves this text.
-- proofs/Reported has the theorem.
use Rattle.std.specs.Prelude.{◌≡◌, true, false, ◌↔◌, List, [], ◌∷◌, ◌++◌, map, ℕ, ◌*◌, ◌≤◌, length, take, T, eqb}
use Rattle.model.specs.Kit.{Memᴰ}
use Rattle.model.specs.{Lists.earlier, Problem.is_solution, Verdict.accepted, Verdict.refused, Sheet.verdict_of, Sheet.problem_of, Run.Ending, Run.plans_in, Run.nodes_in, Claims.CountsAt}
use Rattle.model.specs.{Claims.Chain}
use Rattle.model.specs.{Claims.leaders}
use Rattle.families_figure.specs.Figure.{report_figure}
use Rattle.report.specs.Report.{line, plan_word, finished_word, refused_word, ending_line, report_of, REPORT_LIMIT}

-- the lines of a text, each with its newline
abbrev pub onto : ℕ → List (List ℕ) → List (List ℕ)
onto x [] = (x ∷ []) ∷ []
onto x (l ∷ ls) = (x ∷ l) ∷ ls

unfoldable pub lines_in : List ℕ → List (List ℕ)
lines_in [] = []
lines_in (x ∷ text) = elim (eqb x 10) [ true ↦ (x ∷ []) ∷ lines_in text | false ↦ onto x (lines_in text) ]

-- the sheet that an input is: of a longer one its first 65,536 bytes
abbrev pub sheet_in : List ℕ → List ℕ
sheet_in input = take 65536 input

-- the leaders of a sheet in reading order
abbrev pub leaders_of : List ℕ → List (List ℕ)
leaders_of b = leaders (problem_of b)

-- a report that ended so: a line for each of the first leaders, as many as the ending carries, in reading order; then the ending's line with its figures,
-- whose counts are those of the tree up to where the run ended, within the allowance of a million
pub record ReportEnds (b : List ℕ) (lines : List (List ℕ)) (e : Ending) : Type 0 where
  pub lines_are : lines ≡ map (line plan_word) (take (plans_in e) (leaders_of b)) ++ (ending_line e (report_figure b REPORT_LIMIT) ∷ [])
  pub allowed : nodes_in e ≤ REPORT_LIMIT
  pub counts : CountsAt (problem_of b) REPORT_LIMIT (4096 * (problem_of b).variables) e

-- before the last line, which begins with "finished", the lines are those of all leaders; s is a solution exactly when one of these becomes s by
-- symmetries, one after another, each giving a solution that reads later; there is none exactly when there is no solution
pub record ReportFinished (b : List ℕ) (before : List (List ℕ)) : Type 0 where
  pub accepts : verdict_of b ≡ accepted
  pub all_leaders : before ≡ map (line plan_word) (leaders_of b)
  pub chains : (s : List ℕ) → length s ≡ (problem_of b).variables → T (is_solution (problem_of b) s) ↔ ∥
      ((l : List ℕ) × Memᴰ l (leaders_of b) × Chain earlier (problem_of b) l s) ∥₁
  pub nothing : (before ≡ []) ↔ ((s : List ℕ) → T (is_solution (problem_of b) s) → ⊥)

pub record ReportHeld (input : List ℕ) : Type 0 where
  -- a refused sheet: one line, with the number and item of the first "no"
  pub refuses : (number item : ℕ) → verdict_of (sheet_in input) ≡ refused number item → lines_in (report_of input) ≡ line refused_word (number ∷ item ∷ []) ∷ []
  -- an accepted one: the plans' lines and the ending's
  pub ends : verdict_of (sheet_in input) ≡ accepted → (e : Ending) × ReportEnds (sheet_in input) (lines_in (report_of input)) e
  -- a last line that begins with "finished"
  pub finished : (before : List (List ℕ)) (last : List ℕ) → lines_in (report_of input) ≡ before ++ (last ∷ []) → take (length finished_word) last ≡ finished_word →
      ReportFinished (sheet_in input) before

abbrev pub Reported : Type 0
Reported = (input : List ℕ) → ReportHeld input
