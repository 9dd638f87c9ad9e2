-- planner_join: what it returns, and the bytes of the answer afterwards.
use Rattle.std.specs.Prelude.{◌≡◌, List, [], ◌∷◌, ◌++◌, ℕ, zero, suc, ◌+◌, ◌*◌, ◌/◌, ◌%◌, eqb, length, replicate}
use Rattle.model.specs.{Bytes.four_bytes, Lists.at, Lists.choose, Lists.tabulate, Verdict.Reply, Verdict.answered, Verdict.refusal}
use Rattle.wire.specs.Wire.{wrong_length}
use Rattle.run_join.specs.Join.{join_verdict, reach_place, plans_of, nodes_of, count_of}
use Rattle.run_join.specs.Calls.{Told, nothing_missing, missing, answer_for}

-- a number in eight bytes, low byte first; numbers one after another
unfoldable pub eight_bytes : ℕ → List ℕ
eight_bytes x = four_bytes (x % 4294967296) ++ four_bytes (x / 4294967296)

unfoldable pub wides_of : List ℕ → List ℕ
wides_of [] = []
wides_of (x ∷ xs) = eight_bytes x ++ wides_of xs

-- the thirteen bytes of a path, as a head has them: where one stands, and where the nearest head begins, else the last path
unfoldable pub path_bytes_at : List ℕ → ℕ → List ℕ
path_bytes_at l o = tabulate 13 (λ i. at l (o + i))

abbrev pub stand_bytes : List ℕ → ℕ → List ℕ
stand_bytes l zero = replicate 13 0
stand_bytes l (suc k) = path_bytes_at l (reach_place l k)

abbrev pub begin_bytes : List ℕ → ℕ → List ℕ
begin_bytes l zero = 1 ∷ 255 ∷ replicate 11 0
begin_bytes l (suc k) = path_bytes_at l (115 * k + 76)

-- the kind, zero, the sums of the heads taken, a range, six zeros
unfoldable pub join_bytes : List ℕ → ℕ → List ℕ → List ℕ
join_bytes l kind range =
    (four_bytes kind ++ four_bytes 0 ++ eight_bytes (plans_of l) ++ eight_bytes (nodes_of l) ++ wides_of (tabulate 12 (count_of l))) ++ range ++ (four_bytes 0 ++ 0 ∷ 0 ∷ [])

-- 0, or the number of the refusal
abbrev pub join_code_for : Reply Told → ℕ
join_code_for (refusal number item) = number * 256
join_code_for (answered told) = 0

-- 1 joined, with no range; 2 missing, from where one stands up to the nearest beginning after it; as it came after a refusal
abbrev pub kind_for : Told → ℕ
kind_for nothing_missing = 1
kind_for (missing stand near) = 2

abbrev pub range_for : List ℕ → Told → List ℕ
range_for l nothing_missing = replicate 13 0 ++ replicate 13 0
range_for l (missing stand near) = stand_bytes l stand ++ begin_bytes l near

abbrev pub join_answer_for : List ℕ → Reply Told → List ℕ → List ℕ
join_answer_for l (refusal number item) answer = answer
join_answer_for l (answered told) answer = join_bytes l (kind_for told) (range_for l told)

-- where the answer has not 152 bytes nothing is changed
unfoldable pub join_code : List ℕ → List ℕ → ℕ
join_code l answer = choose (eqb (length answer) 152) (join_code_for (answer_for (join_verdict l) l)) wrong_length

unfoldable pub join_answer : List ℕ → List ℕ → List ℕ
join_answer l answer = choose (eqb (length answer) 152) (join_answer_for l (answer_for (join_verdict l) l) answer) answer

-- a call of planner_join: the heads lent, the answer as it came, the code that comes back, the answer at the end. It is the function's contract.
pub record CallJoinBytes (l answer : List ℕ) (code : ℕ) (answer' : List ℕ) : Type 0 where
  pub returns : code ≡ join_code l answer
  pub tells : answer' ≡ join_answer l answer
