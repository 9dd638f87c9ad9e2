-- `run_task::put_order` meets its contract: after k turns the first k numbers of the order are put. Assumes nothing.
use Rattle.model.specs.Kit.{◌≡◌, refl, sym, ap, ap₂, ◌∙◌, List, ℕ, ◌+◌, add-one, arith, length, set}
use Rattle.model.specs.Lists.{at}
use Rattle.arrays.specs.Inner.Places.{ORDER}
use Rattle.run_task.specs.Inner.Task.{ordered}
use Rattle.run_task.proofs.{Task.length_ordered}
use Rattle.run_task.proofs.put_order.Goals as goal

pub loop-k-init : goal.loop-k-init
unfolding ordered
loop-k-init c = refl

pub bounds-numbers-k : goal.bounds-numbers-k
bounds-numbers-k c = omega
    (arith, ap length c.loop-k.invariant, length_ordered c.args.order.now c.loop-k.k c.args.numbers.now)

pub loop-k-preserved : goal.loop-k-preserved
unfolding ordered at
loop-k-preserved c =
    ap₂ (λ (s : List ℕ) (v : ℕ). set s (ORDER + c.loop-k.k) v) c.loop-k.invariant c.long.ensures.0
    ∙ ap (λ (k : ℕ). ordered c.args.order.now k c.args.numbers.now) (sym (add-one c.loop-k.k))

pub returns : goal.returns
returns c =
    let e : c.loop-k.k ≡ 12 = omega arith in
    c.loop-k.invariant ∙ ap (λ (k : ℕ). ordered c.args.order.now k c.args.numbers.now) e

pub shape_of-numbers : goal.shape_of-numbers
shape_of-numbers c = ap length c.loop-k.invariant ∙ length_ordered c.args.order.now c.loop-k.k c.args.numbers.now
