use Rattle.sheet_carried.proofs.{Surely.sure_none, Surely.sure_turned, Surely.on_turned}
use Rattle.sheet_carried.proofs.sure.refusing.Goals as goal

pub returns-then-a-b : goal.returns-then-a-b
returns-then-a-b c = λ p numbers o. c.missing.ensures p numbers o c.if-a-b.true

pub returns-then-b-a : goal.returns-then-b-a
returns-then-b-a c = λ p numbers o. sure_turned p _ _ _ _ (c.missing-then-b-a.ensures p numbers (on_turned p _ _ _ _ _ _ o) c.if-b-a.true)

pub returns : goal.returns
returns c = λ p numbers o. sure_none p _ _ _
