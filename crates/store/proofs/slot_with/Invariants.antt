use Rattle.model.specs.Kit.{◌≡◌, false, ℕ, ◌<◌}
use Rattle.store.specs.Inner.Layout.{slot_at, holds}
use Rattle.store.proofs.slot_with.Given as goal

abbrev pub invariant-loop-i : goal.invariant-loop-i
invariant-loop-i l = (j : ℕ) → j < l.i → holds l.store l.key (slot_at l.owner j) ≡ false
