-- An answer as one number and as three numbers in bytes: what the exported functions return and leave in the lent answer.
use Rattle.std.specs.Prelude.{List, ◌++◌, ℕ, ◌+◌, ◌*◌}
use Rattle.model.specs.{Bytes.four_bytes, Verdict.Verdict, Verdict.accepted, Verdict.refused}
pub use Rattle.model.specs.Bytes.{four_at}

-- an answer as one number: 0, or the number and the item of the refusal
abbrev pub code_of : Verdict → ℕ
code_of accepted = 0
code_of (refused number item) = number * 256 + item

-- the answer where a lent buffer has not the length that is asked
abbrev pub wrong_length : ℕ
wrong_length = 255 * 256

-- three numbers of four bytes
unfoldable pub three_numbers : ℕ → ℕ → ℕ → List ℕ
three_numbers kind a b = four_bytes kind ++ four_bytes a ++ four_bytes b
