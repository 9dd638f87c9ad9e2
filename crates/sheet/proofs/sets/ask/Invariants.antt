use Rattle.model.specs.Kit.{◌≡◌, ◌≤◌, length}
use Rattle.model.specs.{ValueSets.full_mask, Sheet.header_of}
use Rattle.sheet.proofs.SetsTurn.{PassedTo, InitialTo}
use Rattle.arrays.specs.Inner.Places.{NUMBERS}
use Rattle.sheet.proofs.sets.ask.Given as goal

abbrev pub invariant-loop-x : goal.invariant-loop-x
invariant-loop-x l = (l.x ≤ l.n) × (l.full.bits ≡ full_mask l.d) × (length l.initial.numbers ≡ NUMBERS) × PassedTo l.sheet (header_of l.sheet) l.n l.x
    × InitialTo l.sheet l.x l.initial.numbers l.numbers
