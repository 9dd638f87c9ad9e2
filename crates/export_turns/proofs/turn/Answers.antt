-- `turn`: the answer's length is asked first; then the call. Assumes nothing.
use Rattle.model.specs.Kit.{refl, sym, ap, ◌∙◌, subst, ◌+◌, ◌*◌}
use Rattle.model.specs.{Lists.at, Refusals.number_of, declared.refusals.Refusal.Refusal}
use Rattle.desk.specs.{Queue.turn, Queue.QueueReply, Queue.answered, Queue.refusal, Meaning.turned_as, Meaning.means_turned}
use Rattle.export_desk.specs.Inner.Fits.{ReplyFits}
use Rattle.export_desk.proofs.Replies.{turn_reply_lem, unanswered, replied}
use Rattle.export_turns.proofs.turn.Goals as goal

pub returns-then-answer-ne16 : goal.returns-then-answer-ne16
returns-then-answer-ne16 c = unanswered c.args.queue.now turn c.args.answer.now c.if-answer-ne16.true

pub turned-requires : goal.turned-requires
unfolding at
turned-requires c =
    subst (ReplyFits (answered (turned_as c.in-Ok.served))) (sym c.if-answer-ne16.false)
    (subst (λ (q : QueueReply). ReplyFits q 16) (sym c.turn.ensures.answers ∙ ap means_turned c.in-Ok.is) (turn_reply_lem c.args.queue.now
    (λ i. (c.slice_known-1.given i).fits)))

pub returns-in-Ok : goal.returns-in-Ok
returns-in-Ok c =
    replied c.args.queue.now turn c.args.answer.now c.if-answer-ne16.false (answered (turned_as c.in-Ok.served)) (sym (ap means_turned c.in-Ok.is) ∙ c.turn.ensures.answers) 0
    c.turn.new.queue c.turned.new.answer refl c.turn.ensures.leaves c.turned.ensures

pub returns-in-Err : goal.returns-in-Err
returns-in-Err c =
    replied c.args.queue.now turn c.args.answer.now c.if-answer-ne16.false (refusal (number_of c.in-Err.question) 0) (sym (ap means_turned c.in-Err.is) ∙ c.turn.ensures.answers)
    c.refusal_code.result c.turn.new.queue c.args.answer.now (c.refusal_code.ensures ∙ ap (λ (by : Refusal). number_of by.question * 256 + by.item) c.into.ensures)
    c.turn.ensures.leaves refl
