use Rattle.model.specs.Kit.{◌≡◌, ◌≤◌, length}
use Rattle.sheet.proofs.{SetsTurn.ZeroTo}
use Rattle.arrays.specs.Inner.Places.{NUMBERS}
use Rattle.sheet.proofs.sets.fill.Given as goal

abbrev pub invariant-loop-x : goal.invariant-loop-x
invariant-loop-x l = (l.x ≤ 16) × (l.first.bits ≡ 1) × (length l.initial.numbers ≡ NUMBERS) × ZeroTo l.x l.initial.numbers l.numbers
