-- The forerunners are among the settled. Assumes nothing.
use Rattle.model.specs.Kit.{sym, ap, ◌∙◌, not, rules}
use Rattle.model.specs.Lists.{at}
use Rattle.model.proofs.Lists.{T_of}
use Rattle.order.proofs.{Placing.settled_not, Placing.follows}
use Rattle.order.proofs.can_follow.Goals as goal

pub returns-else-not-contains : goal.returns-else-not-contains
returns-else-not-contains c = λ pairs l b h. ap not c.if-not-contains.false ∙ settled_not pairs l _ _ h (T_of _ (sym c.contains.ensures ∙ c.if-not-contains.false))

pub returns-then-not-contains : goal.returns-then-not-contains
unfolding at
returns-then-not-contains c = λ pairs l b h. follows pairs l _ _ h _ b (sym c.contains.ensures ∙ c.if-not-contains.true) (search rules)
