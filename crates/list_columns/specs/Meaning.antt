-- What the answers mean.
use Rattle.std.specs.Prelude.{ℕ, Result}
use Rattle.model.specs.{Room.Outcome, Refusals.reply_from_question}
use Rattle.model.specs.declared.{refusals.Question.Question}

abbrev pub means : Result ℕ Question → Outcome
means r = reply_from_question (λ bytes. bytes) r
