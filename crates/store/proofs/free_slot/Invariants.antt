use Rattle.model.specs.Kit.{◌≡◌, false, ℕ, ◌<◌}
use Rattle.store.specs.Inner.Layout.{is_free}
use Rattle.store.proofs.free_slot.Given as goal

abbrev pub invariant-loop-i : goal.invariant-loop-i
invariant-loop-i l = (j : ℕ) → j < l.i → is_free l.store l.owner j ≡ false
