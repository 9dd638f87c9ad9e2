-- What a caller of `filter` (planner_filter) holds: of the bytes of the sets as they came and at the end and of the code that comes back, what crate filter's
-- `FilterHeld` says of sets and answer. proofs/FilterBytes has the theorem.
use Rattle.std.specs.Prelude.{◌≡◌, List, ℕ, ◌+◌, ◌*◌, ◌%◌, ◌<◌, length, Result, Ok, Err}
use Rattle.model.specs.Lists.{at}
use Rattle.model.specs.{Refusals.number_of, declared.refusals.Refusal.Refusal}
use Rattle.filter.specs.declared.Ending.TheVariants.{Failed, Entailed, Consistent}
use Rattle.filter.specs.{FilterCalls.FilterHeld, declared.Ending.Ending}
use Rattle.wire.specs.Wire.{wrong_length}
use Rattle.export_filter.specs.Filter.{sets_in, filter_code, filter_bytes}

-- a call: bytes b of the sets and the three lists as lent, the code that comes back, bytes b' of the sets at the end. It is the function's contract.
pub record CallBytes (b xs es us : List ℕ) (code : ℕ) (b' : List ℕ) : Type 0 where
  pub answers : code ≡ filter_code b xs es us
  pub leaves : b' ≡ filter_bytes b xs es us

-- the code of an answer
abbrev pub code_of : Result Ending Refusal → ℕ
code_of (Ok Consistent) = 0
code_of (Ok Entailed) = 1
code_of (Ok Failed) = 2
code_of (Err refused_by) = number_of refused_by.question * 256 + refused_by.item

pub record BytesHeld (b xs es us : List ℕ) (code : ℕ) (b' : List ℕ) : Type 0 where
  -- an odd number of bytes
  pub odd : (length b % 2 ≡ 0 → ⊥) → (code ≡ wrong_length) × (b' ≡ b)
  -- else the code tells an answer of the filter for the sets in the bytes, and the sets in the bytes at the end are what it leaves; a refusal leaves the
  -- bytes as they came
  pub even : length b % 2 ≡ 0 →
      (r : Result Ending Refusal) × (code ≡ code_of r) × FilterHeld (sets_in b) xs es us r (sets_in b') × ((refused_by : Refusal) → r ≡ Err refused_by → b' ≡ b)

abbrev pub BytesHeldClaim : Type 0
BytesHeldClaim = (b xs es us : List ℕ) (code : ℕ) (b' : List ℕ) → ((i : ℕ) → at b i < 256) → CallBytes b xs es us code b' → BytesHeld b xs es us code b'
