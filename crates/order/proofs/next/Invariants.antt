use Rattle.model.specs.Kit.{false, List, ◌≡◌, ℕ, ◌/◌, ◌<◌, length}
use Rattle.order.specs.{Order.can_follow, Inner.Settled.SetOf, Inner.Settled.Befores}
use Rattle.order.proofs.next.Given as goal

abbrev pub invariant-loop-y : goal.invariant-loop-y
invariant-loop-y here = (pairs l : List ℕ) → Befores pairs (length pairs / 2) here.befores → SetOf here.settled l → (j : ℕ) → j < here.y → can_follow pairs l j ≡ false
