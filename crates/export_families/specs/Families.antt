-- planner_families (paper 02, #104): what it answers, and the bytes of the answer afterwards. Where the answer has not 12 bytes nothing is changed.
use Rattle.std.specs.Prelude.{◌≡◌, List, ℕ, ◌+◌, ◌*◌, eqb, length}
use Rattle.model.specs.Lists.{choose}
use Rattle.families_figure.specs.Figure.{Figure, number, dash}
use Rattle.families_count.specs.Told.{Told, refusal, answered, counted_lent}
use Rattle.wire.specs.Wire.{wrong_length, three_numbers}

-- 0, or the number and the item of the refusal
abbrev pub figure_code : Told → ℕ
figure_code (refusal n i) = n * 256 + i
figure_code (answered f) = 0

-- kind 1 and the number of families, or kind 2, the dash
abbrev pub figure_bytes : Figure → List ℕ
figure_bytes (number k) = three_numbers 1 k 0
figure_bytes dash = three_numbers 2 0 0

-- as it came after a refusal
abbrev pub counted_bytes : Told → List ℕ → List ℕ
counted_bytes (refusal n i) answer = answer
counted_bytes (answered f) answer = figure_bytes f

unfoldable pub families_code : List ℕ → List ℕ → List ℕ → ℕ → List ℕ → ℕ
families_code b pairs block limit answer = choose (eqb (length answer) 12) (figure_code (counted_lent b pairs block limit)) wrong_length

unfoldable pub families_answer : List ℕ → List ℕ → List ℕ → ℕ → List ℕ → List ℕ
families_answer b pairs block limit answer = choose (eqb (length answer) 12) (counted_bytes (counted_lent b pairs block limit) answer) answer

-- a call: what it was lent, the code that comes back, the answer at the end. It is the function's contract.
pub record CallFigured (b pairs block : List ℕ) (limit : ℕ) (answer : List ℕ) (code : ℕ) (answer' : List ℕ) : Type 0 where
  pub returns : code ≡ families_code b pairs block limit answer
  pub tells : answer' ≡ families_answer b pairs block limit answer
