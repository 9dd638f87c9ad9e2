-- What the answer to rounds means.
use Rattle.std.specs.Prelude.{Result}
use Rattle.model.specs.{Refusals.reply_from_question, declared.refusals.Question.Question}
use Rattle.desk.specs.Rounds.{RoundsReply}
use Rattle.desk_turns.specs.declared.Given.{Given}

abbrev pub means_rounds : Result Given Question → RoundsReply
means_rounds r = reply_from_question (λ (g : Given). (g.ended, g.going)) r
