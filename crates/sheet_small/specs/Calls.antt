-- A call of `small_sheet`: the position, the room as it came, the answer, and the room at the end. It is the function's contract.
use Rattle.std.specs.Prelude.{◌≡◌, List, ℕ, Result}
use Rattle.model.specs.declared.refusals.Question.{Question}
use Rattle.sheet_small.specs.{Answers.means, Answers.small_outcome, Answers.small_room}

abbrev pub CallSmall : ℕ → List ℕ → Result ℕ Question → List ℕ → Type 0
CallSmall k room r after = (means r ≡ small_outcome k room) × (after ≡ small_room k room)
