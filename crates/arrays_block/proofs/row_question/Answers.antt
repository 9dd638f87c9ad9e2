use Rattle.model.specs.Kit.{◌∙◌}
use Rattle.arrays_block.proofs.{Asking.asked, Asking.answer_is}
use Rattle.arrays_block.proofs.row_question.Goals as goal

pub returns : goal.returns
returns c = λ p h b. let t = c.table-bytes.ensures p b in c.table_question.ensures p (asked p _ _ _ _ t _ _ h) ∙ answer_is p _ _ _ _ t

pub table_question-requires : goal.table_question-requires
table_question-requires c = (c.requires.0, asked c.requires.0 _ _ _ _ (c.table-bytes.ensures c.requires.0 c.requires.2) _ _ c.requires.1)
