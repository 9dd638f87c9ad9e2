-- `write_report`: the answer's length is asked first, then whether the buffer holds the report. Assumes nothing.
use Rattle.model.specs.Kit.{arith}
use Rattle.export_report.proofs.{Reported.wrong_answer, Reported.too_short, Reported.reported, Reported.whole_input}
use Rattle.export_report.proofs.write_report.Goals as goal

pub returns-then-answer-ne12 : goal.returns-then-answer-ne12
returns-then-answer-ne12 c = wrong_answer c.args.input.now c.args.out.now c.args.answer.now c.if-answer-ne12.true

pub returns-then-out-length : goal.returns-then-out-length
returns-then-out-length c =
    too_short c.args.input.now c.args.out.now c.args.answer.now c.if-answer-ne12.false c.input_report-length.new.out c.input_report-length.result (whole_input _ _ _ _ c.input_report-length.ensures)
    (omega (arith, c.if-out-length.true, c.input_report-length.auto.out))

pub returns : goal.returns
returns c =
    reported c.args.input.now c.args.out.now c.args.answer.now c.if-answer-ne12.false c.input_report-length.new.out c.input_report-length.result (whole_input _ _ _ _ c.input_report-length.ensures)
    (omega (arith, c.if-out-length.false, c.input_report-length.auto.out)) c.three.new.out c.three.ensures
