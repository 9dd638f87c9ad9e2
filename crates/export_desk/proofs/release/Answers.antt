-- `release`: the answer's length is asked first; then the call. Assumes nothing.
use Rattle.model.specs.Kit.{sym, ap, ◌∙◌, subst, ℕ, ◌+◌, ◌*◌}
use Rattle.std.specs.Prelude.{Result, Ok}
use Rattle.model.specs.{Lists.at, Refusals.number_of, declared.refusals.Question.Question, declared.refusals.Refusal.Refusal}
use Rattle.desk.specs.{Queue.QueueReply, Queue.answered, Queue.released, Queue.refusal, Meaning.means_released}
use Rattle.export_desk.specs.{Inner.Fits.ReplyFits, Inner.Answers.means}
use Rattle.export_desk.specs.declared.Answer.TheVariants.{Released}
use Rattle.export_desk.proofs.{Replies.release_reply_lem, Replies.release_short, Replies.release_done}
use Rattle.export_desk.proofs.release.Goals as goal

pub returns-then-answer-ne12 : goal.returns-then-answer-ne12
returns-then-answer-ne12 c =
    release_short c.args.queue.now c.args.slot c.args.room.now c.args.answer.now c.if-answer-ne12.true

pub told-requires : goal.told-requires
unfolding at
told-requires c =
    subst (ReplyFits (means (Ok (Released c.in-Ok.bytes)))) (sym c.if-answer-ne12.false)
    (subst (λ (q : QueueReply). ReplyFits q 12) (sym c.release.ensures.answers ∙ ap (λ (r : Result ℕ Question). means_released r c.release.new.room) c.in-Ok.is)
    (release_reply_lem c.args.queue.now (λ i. (c.slice_known-1.given i).fits) c.args.slot c.args.room.now))

pub returns-in-Ok : goal.returns-in-Ok
returns-in-Ok c =
    release_done c.args.queue.now c.args.slot c.args.room.now c.args.answer.now c.if-answer-ne12.false (answered (released c.in-Ok.bytes c.release.new.room))
    (sym (ap (λ (r : Result ℕ Question). means_released r c.release.new.room) c.in-Ok.is) ∙ c.release.ensures.answers) c.told.result c.release.new.queue c.release.new.room
    c.told.new.answer c.told.ensures.value c.release.ensures.leaves c.release.ensures.writes c.told.ensures.answer_after

pub returns-in-Err : goal.returns-in-Err
returns-in-Err c =
    release_done c.args.queue.now c.args.slot c.args.room.now c.args.answer.now c.if-answer-ne12.false (refusal (number_of c.in-Err.question) 0)
    (sym (ap (λ (r : Result ℕ Question). means_released r c.release.new.room) c.in-Err.is) ∙ c.release.ensures.answers) c.told-in-Err.result c.release.new.queue c.release.new.room
    c.told-in-Err.new.answer (c.told-in-Err.ensures.value ∙ ap (λ (by : Refusal). number_of by.question * 256 + by.item) c.into.ensures)
    c.release.ensures.leaves c.release.ensures.writes (c.told-in-Err.ensures.answer_after)
