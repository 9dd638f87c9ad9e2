-- `run`: the answer's length is asked first; then the run, and its answer as three numbers. Assumes nothing.
use Rattle.model.specs.Kit.{refl, sym, ap, ◌∙◌}
use Rattle.model.specs.{Run.refusal, Run.ended, Sheet.verdict_of, Refusals.number_of}
use Rattle.run.specs.Meaning.{means}
use Rattle.run_state.specs.Meaning.{ending_of}
use Rattle.wire.proofs.Codes.{verdict_small, refused_small}
use Rattle.export_run.proofs.Ran.{refusal_of, counted, wrong_answer, right_answer}
use Rattle.export_sheet.proofs.run.Goals as goal

pub returns-then-answer-ne12 : goal.returns-then-answer-ne12
returns-then-answer-ne12 c = wrong_answer c.args.sheet.now c.args.limit c.args.list.now c.args.answer.now c.if-answer-ne12.true

pub refusal_code-requires : goal.refusal_code-requires
refusal_code-requires c =
    let v = refusal_of c.args.sheet.now c.args.limit c.args.list.now _ _ (sym c.run.ensures.answers ∙ ap means c.in-Err.is) in
    refused_small (verdict_of c.args.sheet.now) _ _ v (verdict_small c.args.sheet.now)

pub ending-requires : goal.ending-requires
ending-requires c = (
  c.if-answer-ne12.false,
  counted c.args.sheet.now c.args.limit c.args.list.now (ending_of c.in-Ok.e) c.ranges.limit.fits
      (sym c.run.ensures.answers ∙ ap means c.in-Ok.is),
)

pub returns-in-Err : goal.returns-in-Err
returns-in-Err c =
    right_answer c.args.sheet.now c.args.limit c.args.list.now c.args.answer.now c.refusal_code.result c.run.new.list c.args.answer.now
    (refusal (number_of c.in-Err.refusal.question) c.in-Err.refusal.item) c.if-answer-ne12.false (sym c.run.ensures.answers ∙ ap means c.in-Err.is)
    c.refusal_code.ensures c.run.ensures.leaves refl

pub returns-in-Ok : goal.returns-in-Ok
returns-in-Ok c =
    right_answer c.args.sheet.now c.args.limit c.args.list.now c.args.answer.now 0 c.run.new.list c.ending.new.out (ended (ending_of c.in-Ok.e)) c.if-answer-ne12.false
    (sym c.run.ensures.answers ∙ ap means c.in-Ok.is) refl c.run.ensures.leaves c.ending.ensures
