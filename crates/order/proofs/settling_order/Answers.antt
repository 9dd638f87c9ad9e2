-- The questions in their turn. Assumes nothing.
use Rattle.model.specs.Kit.{sym, ◌∙◌, inl, inr, arith, rules}
use Rattle.order.proofs.{Placing.below_each, Placing.not_whole, Placing.outside, Placing.circle, Placing.ordered}
use Rattle.order.proofs.settling_order.Goals as goal
use Rattle.order.proofs.settling_order.Goals.{then-pairs-gt128-via-then-pairs-gt128, then-pairs-gt128-via-else-pairs-gt128+then-pairs-ne0}

pub returns-then-pairs-gt128 : goal.returns-then-pairs-gt128
returns-then-pairs-gt128 c = not_whole _ _ _ (elim c.then-pairs-gt128.branch [
  | then-pairs-gt128-via-then-pairs-gt128 w ↦ inl w.if-pairs-gt128.true
  | then-pairs-gt128-via-else-pairs-gt128+then-pairs-ne0 w ↦ inr w.if-pairs-ne0.true
])

pub returns-then-not-all_below : goal.returns-then-not-all_below
returns-then-not-all_below c = outside _ _ _ (search rules) (search rules) (sym c.all_below.ensures ∙ c.if-not-all_below.true)

pub returns-then-not-settle : goal.returns-then-not-settle
returns-then-not-settle c = circle _ _ _ (search rules) (search rules) (sym c.all_below.ensures ∙ c.if-not-all_below.false) _ _ _
    c.settle.ensures c.if-not-settle.true

pub returns : goal.returns
returns c = ordered _ _ _ (search rules) (search rules) (sym c.all_below.ensures ∙ c.if-not-all_below.false) _ _
    (omega arith) c.settle.ensures c.if-not-settle.false

pub settle-requires : goal.settle-requires
settle-requires c = (search rules, below_each _ _ (search rules) (sym c.all_below.ensures ∙ c.if-not-all_below.false))
