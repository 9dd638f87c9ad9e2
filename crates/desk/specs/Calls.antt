-- What callers of `submit` and `release` hold: the contracts, one record a function.
use Rattle.std.specs.Prelude.{◌≡◌, List, ℕ, Result}
use Rattle.model.specs.{declared.refusals.Question.Question, declared.refusals.Refusal.Refusal}
use Rattle.desk.specs.{Queue.submit, Queue.release, Inner.Layout.reply_on, Inner.Layout.bytes_after, Meaning.means_queued, Meaning.means_released, Meaning.room_after}

-- b are the queue's bytes before and c after the call, r came back
pub record SubmitDone (b sheet : List ℕ) (limit : ℕ) (c : List ℕ) (r : Result ℕ Refusal) : Type 0 where
  pub answers : means_queued r ≡ reply_on b (submit sheet limit)
  pub leaves : c ≡ bytes_after b (submit sheet limit)

-- the room is `room` before and `after` after the call
pub record ReleaseDone (b : List ℕ) (slot : ℕ) (room c after : List ℕ) (r : Result ℕ Question) : Type 0 where
  pub answers : means_released r after ≡ reply_on b (release slot room)
  pub leaves : c ≡ bytes_after b (release slot room)
  pub writes : after ≡ room_after (reply_on b (release slot room)) room
