-- planner_report: what it returns, and the bytes of every lent buffer afterwards.
use Rattle.std.specs.Prelude.{◌≡◌, List, ℕ, leb, length}
use Rattle.model.specs.Verdict.{Verdict, accepted, ask}
use Rattle.report.specs.Report.{report_of}
use Rattle.wire.specs.{Wire.four_at, Outcomes.lent_code, Outcomes.lent_room, Outcomes.lent_answer}

-- 22: the buffer holds the report
unfoldable pub report_verdict : List ℕ → List ℕ → Verdict
report_verdict input out = ask (leb (length (report_of input)) (length out)) 22 0 accepted

unfoldable pub report_code : List ℕ → List ℕ → List ℕ → ℕ
report_code input out answer = lent_code (report_verdict input out) (report_of input) answer

-- the report stands at the front of the buffer, and all bytes after it are as they came
unfoldable pub report_bytes : List ℕ → List ℕ → List ℕ → List ℕ
report_bytes input out answer = lent_room (report_verdict input out) (report_of input) answer out

-- kind 1, the report's length, 0
unfoldable pub report_answer : List ℕ → List ℕ → List ℕ → List ℕ
report_answer input out answer = lent_answer (report_verdict input out) (report_of input) answer

-- that length, as the answer tells it
abbrev pub length_told : List ℕ → ℕ
length_told answer = four_at answer 4

-- a call: what it was lent, the code that comes back, buffer and answer at the end. It is the function's contract.
pub record CallReport (input out answer : List ℕ) (code : ℕ) (out' answer' : List ℕ) : Type 0 where
  pub returns : code ≡ report_code input out answer
  pub leaves : out' ≡ report_bytes input out answer
  pub tells : answer' ≡ report_answer input out answer
