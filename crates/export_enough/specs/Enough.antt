-- planner_at_least (paper 02, #101): the answer has 12 bytes, three numbers: 1 yes, 2 no, 3 spent; the plans found; the nodes made.
use Rattle.std.specs.Prelude.{List, ℕ, ◌+◌, ◌*◌, eqb, length}
use Rattle.model.specs.Lists.{choose}
use Rattle.run_enough.specs.{AtLeast.enough, AtLeast.too_few, AtLeast.unknown, Lent.EnoughAnswer, Lent.refusal, Lent.answered, Lent.enough_lent}
use Rattle.wire.specs.Wire.{wrong_length, three_numbers}

abbrev pub said_code : EnoughAnswer → ℕ
said_code (refusal number item) = number * 256 + item
said_code (answered e) = 0

-- as it came after a refusal
abbrev pub said_bytes : EnoughAnswer → List ℕ → List ℕ
said_bytes (refusal number item) answer = answer
said_bytes (answered (enough plans made)) answer = three_numbers 1 plans made
said_bytes (answered (too_few plans made)) answer = three_numbers 2 plans made
said_bytes (answered (unknown plans made)) answer = three_numbers 3 plans made

-- where the answer has not 12 bytes nothing is changed
unfoldable pub enough_code : List ℕ → List ℕ → List ℕ → ℕ → ℕ → List ℕ → ℕ
enough_code b pairs block m limit answer = choose (eqb (length answer) 12) (said_code (enough_lent b pairs block limit m)) wrong_length

unfoldable pub enough_bytes : List ℕ → List ℕ → List ℕ → ℕ → ℕ → List ℕ → List ℕ
enough_bytes b pairs block m limit answer = choose (eqb (length answer) 12) (said_bytes (enough_lent b pairs block limit m) answer) answer
