-- planner_closed (paper 02, #112): what it answers, and the bytes of the answer afterwards. Where the answer has not 12 bytes nothing is changed.
use Rattle.std.specs.Prelude.{List, ℕ, ◌+◌, ◌*◌, eqb, length}
use Rattle.model.specs.Lists.{choose}
use Rattle.families_closed.specs.{Open.Open, Open.none, Open.two, Lent.Told, Lent.refusal, Lent.answered, Lent.closed_lent}
use Rattle.wire.specs.Wire.{wrong_length, three_numbers}

-- 0, or the number and the item of the refusal
abbrev pub told_code : Told → ℕ
told_code (refusal number item) = number * 256 + item
told_code (answered o) = 0

-- kind 1 where the exchanges are closed; else kind 2 and the first two whose product is missing
abbrev pub open_bytes : Open → List ℕ
open_bytes none = three_numbers 1 0 0
open_bytes (two a b) = three_numbers 2 a b

-- as it came after a refusal
abbrev pub told_bytes : Told → List ℕ → List ℕ
told_bytes (refusal number item) answer = answer
told_bytes (answered o) answer = open_bytes o

unfoldable pub closed_code : List ℕ → List ℕ → List ℕ → List ℕ → ℕ
closed_code b pairs block answer = choose (eqb (length answer) 12) (told_code (closed_lent b pairs block)) wrong_length

unfoldable pub closed_answer : List ℕ → List ℕ → List ℕ → List ℕ → List ℕ
closed_answer b pairs block answer = choose (eqb (length answer) 12) (told_bytes (closed_lent b pairs block) answer) answer
