-- A call of `question` and of `run` as they are exported: what it was lent, the code that comes back, and what the lent bytes are at the end. Each is the
-- function's contract; promises' `Exported` says what a caller may rely on.
use Rattle.std.specs.Prelude.{◌≡◌, List, ℕ}
use Rattle.export_run.specs.Run.{question_code, run_code, run_list, run_answer}

-- a call of `question`: bytes b, the code that comes back
abbrev pub CallCode : List ℕ → ℕ → Type 0
CallCode b code = code ≡ question_code b

-- a call of `run`: sheet b, limit, list and answer as they came, the code that comes back, list and answer at the end
pub record CallExported (b : List ℕ) (limit : ℕ) (list answer : List ℕ) (code : ℕ) (list' answer' : List ℕ) : Type 0 where
  pub returns : code ≡ run_code b limit list answer
  pub leaves : list' ≡ run_list b limit list answer
  pub tells : answer' ≡ run_answer b limit list answer
