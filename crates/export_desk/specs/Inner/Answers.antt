-- Between the functions of the crate: what a reply of the code means.
use Rattle.std.specs.Prelude.{[], Result}
use Rattle.model.specs.{Refusals.reply_from, declared.refusals.Refusal.Refusal}
use Rattle.desk.specs.{Queue.QueueAnswer, Queue.QueueReply, Queue.queued, Queue.released, Meaning.turned_as}
use Rattle.export_desk.specs.declared.Answer.{Answer}
use Rattle.export_desk.specs.declared.Answer.TheVariants.{Queued, Turned, Released}

abbrev pub answer_as : Answer → QueueAnswer
answer_as (Queued slot) = queued slot
answer_as (Turned served) = turned_as served
answer_as (Released bytes) = released bytes []

abbrev pub means : Result Answer Refusal → QueueReply
means r = reply_from answer_as r
