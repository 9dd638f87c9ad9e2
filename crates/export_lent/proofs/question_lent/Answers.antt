-- `question_lent`: the verdict as one number. Assumes nothing.
use Rattle.model.specs.Kit.{sym, ap, ◌∙◌}
use Rattle.model.specs.Refusals.{verdict_from}
use Rattle.wire.specs.Wire.{code_of}
use Rattle.export_lent.specs.Lent.{lent_question_code}
use Rattle.wire.proofs.Codes.{refused_small}
use Rattle.export_lent.proofs.{Lent.lent_small}
use Rattle.export_lent.proofs.question_lent.Goals as goal

pub refusal_code-requires : goal.refusal_code-requires
refusal_code-requires c = refused_small _ _ _ (sym c.question.ensures ∙ ap verdict_from c.in-Err.is) (lent_small _ _ _)

pub returns-in-Ok : goal.returns-in-Ok
unfolding lent_question_code
returns-in-Ok c = ap code_of (sym (ap verdict_from c.in-Ok.is) ∙ c.question.ensures)

pub returns-in-Err : goal.returns-in-Err
unfolding lent_question_code
returns-in-Err c = c.refusal_code.ensures ∙ ap code_of (sym (ap verdict_from c.in-Err.is) ∙ c.question.ensures)
