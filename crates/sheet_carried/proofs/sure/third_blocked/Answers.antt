use Rattle.model.specs.Kit.{sym, ◌∙◌, arith}
use Rattle.sheet_carried.proofs.{Surely.sure_blocked}
use Rattle.sheet_carried.proofs.sure.third_blocked.Goals as goal

pub returns-then-contains : goal.returns-then-contains
returns-then-contains c = λ p t e s. sure_blocked p _ _ _ _ s e (sym c.contains.ensures ∙ c.if-contains.true)

pub returns : goal.returns
returns c = λ p t e s. c.blocked.ensures p t
