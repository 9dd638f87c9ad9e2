-- `submit`: the queue's size, the lowest free slot, the sheet's questions. Assumes nothing.
use Rattle.model.specs.Kit.{sym, ap, ◌∙◌, arith}
use Rattle.model.specs.Refusals.{verdict_from}
use Rattle.std.proofs.lemmas.Result.{err_from_is_err_and}
use Rattle.desk.proofs.{Sheets.answered_length, Slots.submit_255, Slots.submit_37, Slots.submit_refused, Slots.submit_yes, Held.submit_done, Held.submit_stopped}
use Rattle.desk_submit.proofs.submit.Goals as goal

pub returns-then-queue-ne-QUEUE_BYTES : goal.returns-then-queue-ne-QUEUE_BYTES
returns-then-queue-ne-QUEUE_BYTES c =
    submit_stopped c.into.ensures (submit_255 c.args.queue.now c.args.sheet.now c.args.limit c.if-queue-ne-QUEUE_BYTES.true)

pub returns-in_default : goal.returns-in_default
returns-in_default c =
    submit_stopped c.into-in_default.ensures
    (submit_37 c.args.queue.now c.args.sheet.now c.args.limit (omega (arith, c.if-queue-ne-QUEUE_BYTES.false)) c.in_default.ensures.slot)

pub returns-in_err-question : goal.returns-in_err-question
returns-in_err-question c =
    let p = err_from_is_err_and c.from_residual.result c.from_residual.ensures.1 in
    rw (p.1, p.2) (submit_done (submit_refused c.args.queue.now c.args.sheet.now c.args.limit (omega (arith, c.if-queue-ne-QUEUE_BYTES.false)) _ _ _
    c.in-Some.ensures.slot (sym (ap verdict_from c.in_err-question.was) ∙ c.question.ensures)))

pub fill-requires : goal.fill-requires
fill-requires c =
    let l = answered_length c.args.sheet.now (sym (ap verdict_from c.in_ok-question.was) ∙ c.question.ensures) in
    (omega (arith, l, c.if-queue-ne-QUEUE_BYTES.false, c.in-Some.ensures.inside), l)

pub returns : goal.returns
returns c =
    submit_done (submit_yes c.args.queue.now c.args.sheet.now c.args.limit (omega (arith, c.if-queue-ne-QUEUE_BYTES.false)) _ _ c.in-Some.ensures.slot
    (sym (ap verdict_from c.in_ok-question.was) ∙ c.question.ensures) c.fill.ensures)
