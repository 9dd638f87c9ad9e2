-- `submit`: the answer's length is asked first; then the call. Assumes nothing.
use Rattle.model.specs.Kit.{sym, ap, ◌∙◌, subst}
use Rattle.std.specs.Prelude.{Ok, Err}
use Rattle.model.specs.{Lists.at}
use Rattle.desk.specs.{Queue.submit, Queue.QueueReply, Meaning.means_queued}
use Rattle.export_desk.specs.{Inner.Fits.ReplyFits, Inner.Answers.means}
use Rattle.export_desk.specs.declared.Answer.TheVariants.{Queued}
use Rattle.export_desk.proofs.{Replies.submit_reply_lem, Replies.unanswered, Replies.replied}
use Rattle.export_desk.proofs.submit.Goals as goal

pub returns-then-answer-ne12 : goal.returns-then-answer-ne12
returns-then-answer-ne12 c = unanswered c.args.queue.now (submit c.args.sheet.now c.args.limit) c.args.answer.now c.if-answer-ne12.true

pub told-requires : goal.told-requires
unfolding at
told-requires c =
    subst (ReplyFits (means (Ok (Queued c.in-Ok.slot)))) (sym c.if-answer-ne12.false)
    (subst (λ (q : QueueReply). ReplyFits q 12) (sym c.submit.ensures.answers ∙ ap means_queued c.in-Ok.is)
    (submit_reply_lem c.args.queue.now (λ i. (c.slice_known-1.given i).fits) c.args.sheet.now c.args.limit))

pub told-requires-in-Err : goal.told-requires-in-Err
unfolding at
told-requires-in-Err c =
    subst (ReplyFits (means (Err c.in-Err.refusal))) (sym c.if-answer-ne12.false)
    (subst (λ (q : QueueReply). ReplyFits q 12) (sym c.submit.ensures.answers ∙ ap means_queued c.in-Err.is)
    (submit_reply_lem c.args.queue.now (λ i. (c.slice_known-1.given i).fits) c.args.sheet.now c.args.limit))

pub returns-in-Ok : goal.returns-in-Ok
returns-in-Ok c =
    replied c.args.queue.now (submit c.args.sheet.now c.args.limit) c.args.answer.now c.if-answer-ne12.false (means (Ok (Queued c.in-Ok.slot)))
    (sym (ap means_queued c.in-Ok.is) ∙ c.submit.ensures.answers) c.told.result c.submit.new.queue c.told.new.answer c.told.ensures.value c.submit.ensures.leaves
    c.told.ensures.answer_after

pub returns-in-Err : goal.returns-in-Err
returns-in-Err c =
    replied c.args.queue.now (submit c.args.sheet.now c.args.limit) c.args.answer.now c.if-answer-ne12.false (means (Err c.in-Err.refusal))
    (sym (ap means_queued c.in-Err.is) ∙ c.submit.ensures.answers) c.told-in-Err.result c.submit.new.queue c.told-in-Err.new.answer c.told-in-Err.ensures.value c.submit.ensures.leaves
    c.told-in-Err.ensures.answer_after
