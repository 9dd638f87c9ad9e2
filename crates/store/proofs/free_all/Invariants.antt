use Rattle.model.specs.Kit.{◌≡◌, length}
use Rattle.store.specs.Inner.Layout.{freed}
use Rattle.store.proofs.free_all.Given as goal

abbrev pub invariant-loop-i : goal.invariant-loop-i
invariant-loop-i l = (l.store ≡ freed l.initial.store l.owner l.key l.i) × (length l.store ≡ length l.initial.store)
