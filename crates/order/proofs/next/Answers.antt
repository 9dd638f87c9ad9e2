-- No place below y can follow. Assumes nothing.
use Rattle.model.specs.Kit.{sym, ◌∙◌, arith, rules}
use Rattle.model.proofs.Masks.{least_at, least_none}
use Rattle.order.proofs.{Placing.more_no}
use Rattle.order.proofs.next.Goals as goal

pub returns-then-can_follow-clause-lowest : goal.returns-then-can_follow-clause-lowest
returns-then-can_follow-clause-lowest c = λ pairs l b h. sym (least_at _ _ _ (search rules) (c.loop-y.invariant pairs l b h) (sym (c.can_follow.ensures pairs l b h) ∙ c.if-can_follow.true))

pub loop-y-preserved : goal.loop-y-preserved
loop-y-preserved c = λ pairs l b h. more_no _ _ (c.loop-y.invariant pairs l b h) (sym (c.can_follow.ensures pairs l b h) ∙ c.if-can_follow.false)

pub returns-clause-lowest : goal.returns-clause-lowest
returns-clause-lowest c = λ pairs l b h. least_none _ _ (λ j k. c.loop-y.invariant pairs l b h j (omega arith))
