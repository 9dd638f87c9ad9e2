use Rattle.model.specs.Kit.{◌∙◌, ap, not, ℕ}
use Rattle.model.specs.ValueSets.{has, mask_of}
use Rattle.sheet_carried.proofs.{Surely.sure_none, Surely.sure_after, Surely.sure_before, Surely.sure_between}
use Rattle.sheet_carried.proofs.sure.missing.Goals as goal

pub returns-then-b-y : goal.returns-then-b-y
returns-then-b-y c = λ p numbers o h. sure_after p numbers _ _ _ _ _ o h c.if-b-y.true _ (c.complement.ensures ∙ ap (λ (s : ℕ). mask_of (λ v. not (has s v))) c.support.ensures)

pub returns-then-y-a : goal.returns-then-y-a
returns-then-y-a c = λ p numbers o h. sure_before p numbers _ _ _ _ _ o h c.if-y-a.true _ c.lacking.ensures

pub returns-then-y-b : goal.returns-then-y-b
returns-then-y-b c = λ p numbers o h. sure_between p numbers _ _ _ _ _ o h c.if-a-y.true c.if-y-b.true _ c.lacking-then-y-b.ensures

pub returns-else-y-b : goal.returns-else-y-b
returns-else-y-b c = λ p numbers o h. sure_none p _ _ _

pub returns-else-a-y : goal.returns-else-a-y
returns-else-a-y c = λ p numbers o h. sure_none p _ _ _
