use Rattle.std.specs.Prelude.{Err}
use Rattle.model.specs.Kit.{sym, ap, ◌∙◌, eqb-true, eqb-false, arith}
use Rattle.model.specs.{Refusals.verdict_from, declared.refusals.Refusal.Refusal}
use Rattle.block.proofs.BlockLent.{lent_none, lent_other, lent_two}
use Rattle.arrays_block.proofs.question.Goals as goal

pub returns-then-is_empty : goal.returns-then-is_empty
returns-then-is_empty c = λ p h. lent_none p _ (eqb-true _ 0 (sym c.is_empty.ensures ∙ c.if-is_empty.true))

pub returns-then-block-ne2 : goal.returns-then-block-ne2
returns-then-block-ne2 c = λ p h. ap (λ (by : Refusal). verdict_from (Err by)) c.into.ensures ∙ lent_other p _ (eqb-false _ 0 (sym c.is_empty.ensures ∙ c.if-is_empty.false)) c.if-block-ne2.true

pub returns : goal.returns
returns c = λ p h. c.ask.ensures p h ∙ lent_two p _ c.if-block-ne2.false
