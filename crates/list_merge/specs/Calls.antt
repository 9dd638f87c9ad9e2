-- A call of `merge`: what it was lent, what it answered, and the room at the end. It is the function's contract.
use Rattle.std.specs.Prelude.{◌≡◌, List, ℕ, length, Result}
use Rattle.model.specs.Room.{outcome_of, room_after}
use Rattle.list_merge.specs.{Merge.merged, Merge.merge_verdict, Meaning.means}
use Rattle.model.specs.declared.{refusals.Question.Question}

pub record CallMerge (n : ℕ) (pairs a b room : List ℕ) (r : Result ℕ Question) (after : List ℕ) : Type 0 where
  pub answers : means r ≡ outcome_of (merge_verdict n pairs a b (length room)) (merged n pairs a b)
  pub leaves : after ≡ room_after (merge_verdict n pairs a b (length room)) (merged n pairs a b) room
