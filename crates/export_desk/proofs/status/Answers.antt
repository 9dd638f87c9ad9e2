-- `status`: the answer's length is asked first; then the call. Assumes nothing.
use Rattle.model.specs.Kit.{refl, sym, ap, ◌∙◌, subst, ◌+◌, ◌*◌, arith}
use Rattle.model.specs.{Lists.at, Refusals.number_of, declared.refusals.Refusal.Refusal}
use Rattle.desk.specs.{Queue.QueueReply, Queue.answered, Queue.refusal, Status.no_counts, Meaning.stands_as, Meaning.means_status, Meaning.counts_of}
use Rattle.export_counts.specs.Inner.Inner.{Twelve}
use Rattle.export_desk.specs.Inner.Fits.{StatusFits}
use Rattle.export_desk.proofs.{Replies.all_counts, Replies.after_four, Replies.status_reply, Replies.status_twelve, Replies.status_short, Replies.status_done}
use Rattle.export_desk.proofs.status.Goals as goal

pub returns-then-answer-ne64 : goal.returns-then-answer-ne64
returns-then-answer-ne64 c = status_short c.args.queue.now c.args.slot c.args.answer.now c.if-answer-ne64.true

pub stands-after-requires : goal.stands-after-requires
unfolding at
stands-after-requires c =
    let h = subst (λ (q : QueueReply). StatusFits q 64) (sym c.status.ensures.answers ∙ ap means_status c.in-Ok.is)
    (status_reply c.args.queue.now (λ i. (c.shared_slice_known-1.given i).fits) c.args.slot) in
    (omega (arith, c.if-answer-ne64.false), h.1, h.2, h.3)

pub numbers-requires : goal.numbers-requires
unfolding at
numbers-requires c = (
  omega (arith, after_four _ _ _ _ c.stands-after.ensures, c.stands-after.auto.answer, c.if-answer-ne64.false),
  subst Twelve (sym c.status.ensures.counts ∙ ap counts_of c.in-Ok.is) (status_twelve c.args.queue.now (λ i. (c.shared_slice_known-1.given i).fits) c.args.slot),
)

pub returns-in-Ok : goal.returns-in-Ok
unfolding at
returns-in-Ok c =
    let counts = sym (ap counts_of c.in-Ok.is) ∙ c.status.ensures.counts in
    let t = subst Twelve (sym counts) (status_twelve c.args.queue.now (λ i. (c.shared_slice_known-1.given i).fits) c.args.slot) in
    status_done c.args.queue.now c.args.slot c.args.answer.now c.if-answer-ne64.false (answered (stands_as c.in-Ok.s.stands)) c.in-Ok.s.counts
    (sym (ap means_status c.in-Ok.is) ∙ c.status.ensures.answers) counts 0 c.numbers.new.out refl
    (all_counts _ _ _ _ c.in-Ok.s.counts c.if-answer-ne64.false t.long c.stands-after.ensures c.numbers.ensures)

pub returns-in-Err : goal.returns-in-Err
returns-in-Err c =
    status_done c.args.queue.now c.args.slot c.args.answer.now c.if-answer-ne64.false (refusal (number_of c.in-Err.question) 0) no_counts
    (sym (ap means_status c.in-Err.is) ∙ c.status.ensures.answers) (sym (ap counts_of c.in-Err.is) ∙ c.status.ensures.counts) c.refusal_code.result c.args.answer.now
    (c.refusal_code.ensures ∙ ap (λ (by : Refusal). number_of by.question * 256 + by.item) c.into.ensures) refl
