-- What callers of `turn` hold: the contract. b are the queue's bytes before and c after the call, r came back.
use Rattle.std.specs.Prelude.{◌≡◌, List, ℕ, Option, Result}
use Rattle.model.specs.declared.{refusals.Question.Question}
use Rattle.desk.specs.{Queue.turn, Inner.Layout.reply_on, Inner.Layout.bytes_after, Meaning.means_turned, declared.Stands.Stands}

pub record Turned (b c : List ℕ) (r : Result (Option Stands) Question) : Type 0 where
  pub answers : means_turned r ≡ reply_on b turn
  pub leaves : c ≡ bytes_after b turn
