-- planner_run_part: what it returns, and the bytes of every lent buffer afterwards.
use Rattle.std.specs.Prelude.{◌≡◌, List, ℕ, eqb, length}
use Rattle.model.specs.Lists.{choose}
use Rattle.run_ranges.specs.{Ranges.answer_part, Ranges.list_part, Ranges.tally_part, Ranges.last_part, Claims.Part}
use Rattle.wire.specs.Wire.{wrong_length}
use Rattle.export_run.specs.Run.{answer_code}
use Rattle.export_parts.specs.Head.{head_for}

-- the part as defined
abbrev pub part_of : List ℕ → List ℕ → List ℕ → List ℕ → List ℕ → ℕ → List ℕ → Part
part_of b pairs block from upto limit out = record {
  from = from;
  upto = upto;
  limit = limit;
  out = out;
  answer = answer_part b pairs block from upto limit out;
  list = list_part b pairs block from upto limit out;
  tally = tally_part b pairs block from upto limit out;
  last = last_part b pairs block from upto limit out;
}

-- where the answer has not 115 bytes nothing is changed
unfoldable pub part_code : List ℕ → List ℕ → List ℕ → List ℕ → List ℕ → ℕ → List ℕ → List ℕ → ℕ
part_code b pairs block from upto limit list answer = choose (eqb (length answer) 115) (answer_code (answer_part b pairs block from upto limit list)) wrong_length

unfoldable pub part_list : List ℕ → List ℕ → List ℕ → List ℕ → List ℕ → ℕ → List ℕ → List ℕ → List ℕ
part_list b pairs block from upto limit list answer = choose (eqb (length answer) 115) (list_part b pairs block from upto limit list) list

unfoldable pub part_answer : List ℕ → List ℕ → List ℕ → List ℕ → List ℕ → ℕ → List ℕ → List ℕ → List ℕ
part_answer b pairs block from upto limit list answer =
    let c = part_of b pairs block from upto limit list in
    choose (eqb (length answer) 115) (head_for b pairs block c c.answer answer) answer

-- a call of planner_run_part: what was lent, list and answer as they came, the code that comes back, list and answer at the end. It is the function's contract.
pub record CallPartBytes (b pairs block from upto : List ℕ) (limit : ℕ) (list answer : List ℕ) (code : ℕ) (list' answer' : List ℕ) : Type 0 where
  pub returns : code ≡ part_code b pairs block from upto limit list answer
  pub leaves : list' ≡ part_list b pairs block from upto limit list answer
  pub tells : answer' ≡ part_answer b pairs block from upto limit list answer
