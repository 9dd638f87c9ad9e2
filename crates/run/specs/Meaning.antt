-- What the answers of `run` mean in the words of model's definitions.
use Rattle.std.specs.Prelude.{Result, Ok, Err}
use Rattle.model.specs.{Run.refusal, Run.answered, Run.ended, Refusals.number_of, declared.refusals.Refusal.Refusal}
use Rattle.run_state.specs.{Meaning.ending_of, declared.Ending.Ending}
use Rattle.run.specs.declared.Enough.{Enough}
use Rattle.run_enough.specs.{AtLeast.enough, AtLeast.too_few, AtLeast.unknown, Lent.EnoughAnswer}
use Rattle.model.specs.Run as Run
use Rattle.run.specs.declared.Enough.TheVariants as E

abbrev pub means : Result Ending Refusal → Run.Answer
means (Ok e) = ended (ending_of e)
means (Err by) = refusal (number_of by.question) by.item

-- and what is said of "at least m plans"
abbrev pub said_enough : Result Enough Refusal → EnoughAnswer
said_enough (Ok (E.Yes plans nodes)) = answered (enough plans nodes)
said_enough (Ok (E.No plans nodes)) = answered (too_few plans nodes)
said_enough (Ok (E.Spent plans nodes)) = answered (unknown plans nodes)
said_enough (Err by) = refusal (number_of by.question) by.item
