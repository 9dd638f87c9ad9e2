use Rattle.sheet_carried.proofs.{Surely.sure_same}
use Rattle.sheet_carried.proofs.sure.surely_after.Goals as goal

pub returns-then-y-z : goal.returns-then-y-z
returns-then-y-z c = λ p r ma mb h. sure_same p _ _ _ _ _ c.if-y-z.true h

pub returns-else-y-z : goal.returns-else-y-z
returns-else-y-z c = λ p r ma mb h. c.surely.ensures p r ma mb
