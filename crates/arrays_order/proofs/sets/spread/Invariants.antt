use Rattle.model.specs.Kit.{◌≡◌, ℕ, ◌+◌, ◌<◌}
use Rattle.model.specs.{Lists.at, Inner.Filling.Filled}
use Rattle.arrays_order.proofs.sets.spread.Given as goal

abbrev pub invariant-loop-i : goal.invariant-loop-i
invariant-loop-i l = ((j : ℕ) → j < 16 → at l.old j ≡ at l.initial.numbers (l.from + j)) × Filled (λ j. l.from + j)
    (λ j r. r ≡ at l.initial.numbers (l.from + at l.order.variables j)) l.i l.initial.numbers l.numbers
