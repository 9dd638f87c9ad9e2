-- `question`: the verdict as one number. Assumes nothing.
use Rattle.model.specs.Kit.{sym, ap, ◌∙◌}
use Rattle.model.specs.{Sheet.verdict_of, Refusals.verdict_from}
use Rattle.wire.specs.Wire.{code_of}
use Rattle.export_run.specs.Run.{question_code}
use Rattle.wire.proofs.Codes.{verdict_small, refused_small}
use Rattle.export_run.proofs.question.Goals as goal

pub refusal_code-requires : goal.refusal_code-requires
refusal_code-requires c =
    refused_small (verdict_of c.args.sheet.now) _ _ (sym c.question.ensures ∙ ap verdict_from c.in-Err.is) (verdict_small c.args.sheet.now)

pub returns-in-Ok : goal.returns-in-Ok
unfolding question_code
returns-in-Ok c = ap code_of (sym (ap verdict_from c.in-Ok.is) ∙ c.question.ensures)

pub returns-in-Err : goal.returns-in-Err
unfolding question_code
returns-in-Err c = c.refusal_code.ensures ∙ ap code_of (sym (ap verdict_from c.in-Err.is) ∙ c.question.ensures)
