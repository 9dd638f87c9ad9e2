-- `by_place`: the first i places are in their own order. Assumes nothing.
use Rattle.model.specs.Kit.{◌≡◌, ℕ, arith, below_more, get_or}
use Rattle.list_merge.proofs.{Reading.in_place, Reading.not_plain}
use Rattle.list_merge.proofs.by_place.Goals as goal

pub returns-then-n-lt8 : goal.returns-then-n-lt8
returns-then-n-lt8 c = not_plain _ _ c.requires.1

pub loop-i-init : goal.loop-i-init
loop-i-init c = λ k h. absurd (omega arith)

pub returns-then-order-i : goal.returns-then-order-i
returns-then-order-i c = not_plain _ _ c.requires.1

pub loop-i-preserved : goal.loop-i-preserved
loop-i-preserved c = below_more (λ (k : ℕ). get_or c.args.order.now k 0 ≡ k) _ c.loop-i.invariant c.if-order-i.false

pub returns : goal.returns
returns c = in_place c.args.n c.args.order.now c.if-n-lt8.false c.requires.1 c.requires.0
    (λ k h. c.loop-i.invariant k (omega arith))

pub overflow_cast-order : goal.overflow_cast-order
overflow_cast-order c = omega (arith, c.shared_slice_known-1.given c.loop-i.i)
